-- What writing a record leaves, and answers.
use Rattle.std.specs.Prelude.{◌≡◌, ℕ, ◌/◌, ◌%◌, ◌≤◌, Bool, false, if◌then◌else◌, not, List, [], ◌∷◌, ◌++◌, length, drop, Some, Ok, Err, Result, ◌==◌, nat_lt}
use Rattle.records.specs.Instance.{Instance}
use Rattle.trace.specs.Layouts.{Fields, byte_of, if_set}
use Rattle.trace.specs.Reading.{read_at}
use Rattle.trace.specs.Spelling.{Spells}
use Rattle.trace.specs.declared.fault.WriteFault.{WriteFault}
use Rattle.trace.specs.declared.fault.WriteFault.TheVariants.{NoRoom}

-- a cell is the first of these
abbrev pub is_first : ℕ → List ℕ → Bool
is_first c [] = false
is_first c (r ∷ rs) = c == r

-- an operator of 0 is left out, and so is a written cell that is the first read
abbrev pub shortest_fields : Instance → Fields
shortest_fields i = record { operator = not (i.operator == 0); written = not (is_first i.written i.reads); reads = length i.reads }

-- cells as bytes, two to a cell, the low byte first
abbrev pub cell_bytes : List ℕ → List ℕ
cell_bytes [] = []
cell_bytes (c ∷ cs) = c % 256 ∷ (c / 256 ∷ cell_bytes cs)

-- a record as bytes with these fields
abbrev pub spelled : Fields → Instance → List ℕ
spelled y i = byte_of y ∷ (if_set y.operator i.operator ++ cell_bytes (if_set y.written i.written ++ i.reads))

-- the bytes that are written
abbrev pub shortest : Instance → List ℕ
shortest i = spelled (shortest_fields i) i

-- bytes over the front of others, of which the later ones stay
abbrev pub over : List ℕ → List ℕ → List ℕ
over s out = s ++ drop (length s) out

-- what is left in a buffer: the bytes and then its later ones, or, where they have no room, what it held
abbrev pub written_to : List ℕ → List ℕ → List ℕ
written_to s out = if nat_lt (length out) (length s) then out else over s out

-- how many bytes were written
abbrev pub write_answer : List ℕ → List ℕ → Result ℕ WriteFault
write_answer s out = if nat_lt (length out) (length s) then Err (NoRoom (length s)) else Ok (length s)

-- what is written spells the record, and nothing shorter does
abbrev pub Shortest : Instance → Type 0
Shortest i = Spells (shortest i) i × ((s : List ℕ) → Spells s i → length (shortest i) ≤ length s)

-- what is written reads back as the record, at any place and whatever bytes follow
abbrev pub ReadsBack : Instance → Type 0
ReadsBack i = (p : ℕ) (t : List ℕ) → read_at p (shortest i ++ t) ≡ Ok (Some (record { meaning = i; size = length (shortest i) }))

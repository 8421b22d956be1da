-- What reading a record answers.
use Rattle.std.specs.Prelude.{ℕ, zero, suc, ◌+◌, ◌*◌, ◌/◌, ◌%◌, if◌then◌else◌, not, ◌&&◌, List, [], ◌∷◌, length, drop, Some, None, Ok, Err, Option, Result, ◌==◌, nat_lt, slice_index}
use Rattle.std.specs.Result.{result_map_both}
use Rattle.records.specs.Instance.{Instance}
use Rattle.records.specs.Making.{result_map}
use Rattle.records.specs.Meaning.{instance}
use Rattle.trace.specs.Layouts.{Fields, bit, cells_of, size_of}
use Rattle.trace.specs.declared.fault.ReadCause.{ReadCause}
use Rattle.trace.specs.declared.fault.ReadCause.TheVariants.{HighBit, Gap, NoCell, PastEnd, Operator}
use Rattle.trace.specs.declared.fault.ReadFault.{ReadFault}
use Rattle.trace.specs.declared.reading.Front.{Front}

-- the rest of a computation, where its first part did not fail
abbrev pub and_then : {A B E : Type 0} → Result A E → (A → Result B E) → Result B E
and_then (Ok x) f = f x
and_then (Err e) f = Err e

-- how many reads the read bits tell: n bits from the lowest up are 2 ^ n - 1, and any others have a gap
abbrev pub reads_in : ℕ → Option ℕ
reads_in b =
    if b == 0 then Some 0
    else (if b == 1 then Some 1
    else (if b == 3 then Some 2
    else (if b == 7 then Some 3
    else (if b == 15 then Some 4
    else (if b == 31 then Some 5
    else None)))))

-- at least one cell stands
abbrev pub with_cell : Fields → Result Fields ReadCause
with_cell y = if not y.written && y.reads == 0 then Err NoCell else Ok y

-- the bits have no gap
abbrev pub without_gap : ℕ → Option ℕ → Result Fields ReadCause
without_gap b None = Err Gap
without_gap b (Some n) = with_cell (record { operator = (b % 2 == 1); written = (b / 2 % 2 == 1); reads = n })

-- the fields that the map byte b tells
abbrev pub layout_at : ℕ → Result Fields ReadCause
layout_at b = if nat_lt 127 b then Err HighBit else without_gap b (reads_in (b / 4))

-- the cell in the first two of some bytes, the low byte first
abbrev pub cell_in : List ℕ → ℕ
cell_in bs = slice_index bs 0 + 256 * slice_index bs 1

-- the first n cells in bytes
abbrev pub cells_in : ℕ → List ℕ → List ℕ
cells_in zero bs = []
cells_in (suc n) bs = cell_in bs ∷ cells_in n (drop 2 bs)

-- the record in bytes that begin with its map byte
abbrev pub found : Fields → List ℕ → Instance
found y bs =
    let cells = cells_in (cells_of y) (drop (1 + bit y.operator) bs) in
    record { operator = (if y.operator then slice_index bs 1 else 0); written = slice_index cells 0; reads = drop (bit y.written) cells }

-- it ends before the bytes do, and then its operator is at most 15
abbrev pub record_at : List ℕ → Fields → Result Instance ReadCause
record_at bs y =
    if nat_lt (length bs) (size_of y) then Err PastEnd
    else (if nat_lt 15 (found y bs).operator then Err Operator
    else Ok (found y bs))

-- a record that was read: its meaning, and how many bytes it took
pub record Piece : Type 0 where
  pub meaning : Instance
  pub size : ℕ

-- the same of a record in memory
abbrev pub piece : Front → Piece
piece x = record { meaning = instance x.found; size = x.size }

-- the record at the front of bytes that lie at place p of the trace, and its size, or none where no bytes are left
abbrev pub read_at : ℕ → List ℕ → Result (Option Piece) ReadFault
read_at p [] = Ok None
read_at p (b ∷ bs) =
    result_map_both (λ x. x) (λ c. record { cause = c; place = p })
    (and_then (layout_at b) (λ y. result_map (λ i. Some (record { meaning = i; size = size_of y })) (record_at (b ∷ bs) y)))

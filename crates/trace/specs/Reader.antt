-- A trace reader: where it stands, and what its next step answers.
use Rattle.std.specs.Prelude.{◌≡◌, ℕ, ◌+◌, ◌-◌, List, [], ◌++◌, take, drop, Some, None, Ok, Err, Option, Result}
use Rattle.std.specs.Option.{option_map}
use Rattle.records.specs.Instance.{Instance}
use Rattle.records.specs.Making.{result_map}
use Rattle.records.specs.Meaning.{instance}
use Rattle.records.specs.declared.record.Record.{Record}
use Rattle.trace.specs.Faults.{place_of}
use Rattle.trace.specs.Reading.{Piece, read_at}
use Rattle.trace.specs.Spelling.{Spells}
use Rattle.trace.specs.declared.fault.ReadFault.{ReadFault}
use Rattle.trace.specs.declared.reader.TraceReader.{TraceReader}

-- where a reader stands: the whole trace, where the record begins that was read last, and the place it came to
pub record Cursor : Type 0 where
  pub bytes : List ℕ
  pub start : ℕ
  pub place : ℕ

-- where this reader stands
abbrev pub cursor : TraceReader → Cursor
cursor r = record { bytes = r.bytes.now; start = r.start; place = r.place }

-- the bytes that are not read yet
abbrev pub left : Cursor → List ℕ
left c = drop c.place c.bytes

-- the bytes of the record that was read last
abbrev pub spelling : Cursor → List ℕ
spelling c = take (c.place - c.start) (drop c.start c.bytes)

-- an answer by what its record means
abbrev pub told : Result (Option Record) ReadFault → Result (Option Instance) ReadFault
told r = result_map (option_map instance) r

-- a step passes the record that it found, and else goes nowhere
abbrev pub stepped : Cursor → Result (Option Piece) ReadFault → Cursor
stepped c (Ok (Some x)) = record { bytes = c.bytes; start = c.place; place = c.place + x.size }
stepped c (Ok None) = c
stepped c (Err f) = c

-- where a reader stands after its next step
abbrev pub after : Cursor → Cursor
after c = stepped c (read_at c.place (left c))

-- what the next step answers: the record that is read
abbrev pub next : Cursor → Result (Option Instance) ReadFault
next c = result_map (option_map (λ x. x.meaning)) (read_at c.place (left c))

-- a step finds exactly what is spelled: none only at the end, a record whose spelling it passes, and a refusal only
-- where no record is spelled
abbrev pub Finds : Cursor → Result (Option Instance) ReadFault → Cursor → Type 0
Finds c (Ok None) d = (left c ≡ []) × (d ≡ c)
Finds c (Ok (Some i)) d = Spells (spelling d) i × (left c ≡ spelling d ++ left d)
Finds c (Err f) d = (place_of f ≡ c.place) × ((s t : List ℕ) (i : Instance) → left c ≡ s ++ t → Spells s i → ⊥) × (d ≡ c)

-- What making a record answers.
use Rattle.std.specs.Prelude.{ℕ, if◌then◌else◌, Ok, Err, Result, nat_lt}
use Rattle.records.specs.Instance.{Instance}
use Rattle.records.specs.Meaning.{row_instance}
use Rattle.records.specs.declared.fault.RecordFault.{RecordFault}
use Rattle.records.specs.declared.fault.RecordFault.TheVariants.{Operator, Reads}
use Rattle.records.specs.declared.row.Row.{Row}

-- the number of each refusal
abbrev pub number_of : RecordFault → ℕ
number_of Operator = 45
number_of Reads = 46

-- what is made of an operator and so many reads: the operator is at most 15, then the reads are at most five
abbrev pub judged : {A : Type 0} → ℕ → ℕ → A → Result A RecordFault
judged operator count x = if nat_lt 15 operator then Err Operator else (if nat_lt 5 count then Err Reads else Ok x)

-- the same of a row, by what it means
abbrev pub judged_row : Row → Result Instance RecordFault
judged_row r = judged r.operator r.count (row_instance r)

-- an answer, with what it holds seen through f
abbrev pub result_map : {A B E : Type 0} → (A → B) → Result A E → Result B E
result_map f (Ok x) = Ok (f x)
result_map f (Err e) = Err e

-- The rows of a written list.
use Rattle.std.specs.Prelude.{ℕ, ◌+◌, Bool, false, if◌then◌else◌, not, ◌&&◌, List, length, Some, None, Ok, Err, Option, Result, nat_lt}
use Rattle.std.specs.List.{list_all, position}
use Rattle.records.specs.Instance.{Instance}
use Rattle.records.specs.Making.{judged_row}
use Rattle.records.specs.declared.fault.RecordFault.{RecordFault}
use Rattle.records.specs.declared.row.Row.{Row}
use Rattle.written.specs.declared.fault.RowsFault.{RowsFault}
use Rattle.written.specs.declared.fault.RowsFault.TheVariants.{TooMany, Cells, Misfit}

-- are all these cells below C
abbrev pub all_below : ℕ → List ℕ → Bool
all_below C cs = list_all (λ c. nat_lt c C) cs

-- an instance that was judged: it is one, and its cells are below C
abbrev pub judged_fits : ℕ → Result Instance RecordFault → Bool
judged_fits C (Ok i) = nat_lt i.written C && all_below C i.reads
judged_fits C (Err e) = false

-- a row is a record whose cells are below C
abbrev pub row_fits : ℕ → Row → Bool
row_fits C r = judged_fits C (judged_row r)

-- the position of the first row that does not fit
abbrev pub first_misfit : ℕ → List Row → Option ℕ
first_misfit C rows = position (λ r. not (row_fits C r)) rows

-- C is 1 to 4,096
abbrev pub cells_fit : ℕ → Bool
cells_fit C = nat_lt 0 C && not (nat_lt 4096 C)

-- no misfit, or the refusal at its row, counted from 1
abbrev pub none_misfits : Option ℕ → Result (Unit {0}) RowsFault
none_misfits None = Ok tt
none_misfits (Some p) = Err (Misfit (p + 1))

-- what loading a written list answers: first the number of rows is judged, then the number of cells, then row by row
abbrev pub rows_judged : ℕ → List Row → Result (Unit {0}) RowsFault
rows_judged C rows = if nat_lt 8192 (length rows) then Err TooMany else if cells_fit C then none_misfits (first_misfit C rows) else Err Cells

-- the number of each refusal
abbrev pub number_of : RowsFault → ℕ
number_of TooMany = 21
number_of Cells = 22
number_of (Misfit «row») = 22

-- the row that each names, from 1; 0 where it names none
abbrev pub row_of : RowsFault → ℕ
row_of TooMany = 0
row_of Cells = 0
row_of (Misfit «row») = «row»

-- What a written list means.
use Rattle.std.specs.Prelude.{ℕ, List, map}
use Rattle.records.specs.Instance.{Instance}
use Rattle.records.specs.Meaning.{row_instance}
use Rattle.written.specs.declared.list.WrittenList.{WrittenList}

-- its number of cells
abbrev pub cells_of : WrittenList → ℕ
cells_of w = w.cells

-- the rows' meanings, in sequence
abbrev pub rows_list : WrittenList → List Instance
rows_list w = map row_instance w.rows.now

-- The text of a record.
use Rattle.std.specs.Prelude.{ℕ, List, [], ◌∷◌, ◌++◌, codes, decimal}
use Rattle.records.specs.Instance.{Instance}

-- each cell after a space
abbrev pub cells_text : List ℕ → List ℕ
cells_text [] = []
cells_text (c ∷ cs) = (codes " " ++ decimal c) ++ cells_text cs

-- `op`, the operator, a comma, the written cell, an arrow, and the cells that are read
abbrev pub text : Instance → List ℕ
text i = codes "op " ++ (decimal i.operator ++ (codes ", " ++ (decimal i.written ++ (codes " <-" ++ cells_text i.reads))))

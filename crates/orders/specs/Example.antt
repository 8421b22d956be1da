-- A small list of instances, for worked examples: two read cell 0, then one writes it.
use Rattle.std.specs.Prelude.{ℕ, List, [], ◌∷◌}
use Rattle.records.specs.Doing.{Arithmetic}
use Rattle.records.specs.Instance.{Instance}

-- the instance that writes one cell from another, by operator 0
abbrev pub copy : ℕ → ℕ → Instance
copy to from = record { operator = 0; written = to; reads = from ∷ [] }

-- cells 1 and 2 are copied from cell 0, and then cell 0 from cell 3
abbrev pub small : List Instance
small = copy 1 0 ∷ copy 2 0 ∷ copy 0 3 ∷ []

-- what the four cells hold at the start
abbrev pub start : List ℕ
start = 5 ∷ 6 ∷ 7 ∷ 8 ∷ []

-- the arithmetic whose value is the first value read, and 0 where nothing is read
abbrev pub first_read : Arithmetic ℕ
first_read operator [] = 0
first_read operator (v ∷ vs) = v

-- Which fields of a record stand in its bytes.
use Rattle.std.specs.Prelude.{ℕ, ◌+◌, ◌-◌, ◌*◌, ◌^◌, Bool, if◌then◌else◌, List, [], ◌∷◌}

-- the fields that follow a map byte: an operator byte, the written cell, and so many reads
pub record Fields : Type 0 where
  pub operator : Bool
  pub written : Bool
  pub reads : ℕ

-- 1 for a bit that stands
abbrev pub bit : Bool → ℕ
bit b = if b then 1 else 0

-- the map byte: bit 0 for the operator, bit 1 for the written cell, and from bit 2 up a bit for each read
abbrev pub byte_of : Fields → ℕ
byte_of y = bit y.operator + (2 * bit y.written + 4 * (2 ^ y.reads - 1))

-- how many cells stand in the bytes
abbrev pub cells_of : Fields → ℕ
cells_of y = bit y.written + y.reads

-- how many bytes there are, two for each cell
abbrev pub size_of : Fields → ℕ
size_of y = 1 + (bit y.operator + 2 * cells_of y)

-- a list of the one thing whose bit stands, or of none
abbrev pub if_set : Bool → ℕ → List ℕ
if_set b x = if b then x ∷ [] else []

-- What a record means.
use Rattle.std.specs.Prelude.{ℕ, ◌≤◌, List, length}

-- one instance of a statement: its operator, the cell that it writes, and the cells that it reads, in order
pub record Instance : Type 0 where
  pub operator : ℕ
  pub written : ℕ
  pub reads : List ℕ

-- an instance that a record can mean
pub record Recordable (i : Instance) : Type 0 where
  pub small : i.operator ≤ 15
  pub few : length i.reads ≤ 5

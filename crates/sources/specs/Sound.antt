-- What every source owes.
use Rattle.std.specs.Prelude.{ℕ, ◌<◌, ◌≤◌, List, length, All}
use Rattle.records.specs.Instance.{Instance, Recordable}

-- a record can mean the instance, and all its cells are below C
pub record Fitting (C : ℕ) (i : Instance) : Type 0 where
  pub recordable : Recordable i
  pub written_below : i.written < C
  pub reads_below : All (λ c. c < C) i.reads

-- there are 1 to 4,096 cells, and at most 65,535 instances, all of them fitting
pub record Sound (C : ℕ) (l : List Instance) : Type 0 where
  pub some_cells : 1 ≤ C
  pub few_cells : C ≤ 4096
  pub short : length l ≤ 65535
  pub fitting : All (Fitting C) l

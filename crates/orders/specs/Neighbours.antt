-- Two neighbours of an order.
use Rattle.std.specs.Prelude.{◌≡◌, ℕ, suc, List, Some}
use Rattle.std.specs.List.{slice_get}
use Rattle.records.specs.Instance.{Instance}
use Rattle.orders.specs.Faithful.{Conflict}

-- there are instances at k and right after it, and they do not conflict
pub record FreeAt (l : List Instance) (k : ℕ) : Type 0 where
  pub first : Instance
  pub second : Instance
  pub first_there : slice_get l k ≡ Some first
  pub second_there : slice_get l (suc k) ≡ Some second
  pub free : Conflict first second → ⊥

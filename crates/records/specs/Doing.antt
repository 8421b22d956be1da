-- Doing instances over a store, with any arithmetic. A store is the list of what its cells hold.
use Rattle.std.specs.Prelude.{ℕ, List, [], ◌∷◌, Some, None, fold, Option, slice_set}
use Rattle.std.specs.List.{slice_get}
use Rattle.records.specs.Instance.{Instance}

-- one value for each operator and list of values read
abbrev pub Arithmetic : Type 0 → Type 0
Arithmetic V = ℕ → List V → V

-- a value in front of others, where it is there
abbrev pub in_front : {V : Type 0} → Option V → List V → List V
in_front None vs = vs
in_front (Some v) vs = v ∷ vs

-- what the cells hold, in their order; a cell that the store lacks gives no value
unfoldable pub values : {V : Type 0} → List V → List ℕ → List V
values s [] = []
values s (c ∷ cs) = in_front (slice_get s c) (values s cs)

-- the store after an instance: the arithmetic's value for its operator and the values read stands in the written cell
unfoldable pub done : {V : Type 0} → Arithmetic V → Instance → List V → List V
done f i s = slice_set s i.written (f i.operator (values s i.reads))

-- the store that a list of instances leaves, done one by one
unfoldable pub leaves : {V : Type 0} → Arithmetic V → List Instance → List V → List V
leaves f l s = fold (λ t i. done f i t) s l

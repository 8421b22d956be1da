-- What is proved of faithful orders, over every list of instances.
use Rattle.std.specs.Prelude.{◌≡◌, ℕ, ◌+◌, if◌then◌else◌, ◌≢◌, ◌↔◌, List, [], ◌∷◌, ◌++◌, length, ◌==◌}
use Rattle.records.specs.Doing.{Arithmetic, leaves}
use Rattle.records.specs.Instance.{Instance}
use Rattle.sources.specs.Questions.{slots_of}
use Rattle.orders.specs.Faithful.{Begins, Conflict, Faithful}
use Rattle.orders.specs.Taking.{MayTake, Taken, tally, version}

-- records begin a faithful order exactly when they can be taken one after the other
abbrev pub TakenExact : Type 0
TakenExact = (l r : List Instance) → Begins l r ↔ Taken l r

-- records that were taken begin a faithful order with i after them exactly when i may be taken next
abbrev pub NextExact : Type 0
NextExact = (l r : List Instance) (i : Instance) → Taken l r → (Begins l (r ++ i ∷ []) ↔ MayTake l r i)

-- records that were taken are a whole faithful order exactly when they are as many as the instances
abbrev pub WholeExact : Type 0
WholeExact = (l r : List Instance) → Taken l r → (Faithful l r ↔ (length r ≡ length l))

-- a faithful order leaves the store that its list leaves, for every arithmetic over V and every store
abbrev pub EqualStores : Type 0 → Type 0
EqualStores V = (l r : List Instance) (f : Arithmetic V) (s : List V) → Faithful l r → leaves f r s ≡ leaves f l s

-- a list is a faithful order of itself
abbrev pub OwnOrder : Type 0
OwnOrder = (l : List Instance) → Faithful l l

-- a faithful order of a faithful order is one of the list
abbrev pub OrdersCompose : Type 0
OrdersCompose = (l r q : List Instance) → Faithful l r → Faithful r q → Faithful l q

-- a list is a faithful order of each of its faithful orders
abbrev pub OrdersTurn : Type 0
OrdersTurn = (l r : List Instance) → Faithful l r → Faithful r l

-- neighbours that do not conflict may be exchanged
abbrev pub ExchangeKeeps : Instance → Instance → Type 0
ExchangeKeeps x y = (Conflict x y → ⊥) → (l a b : List Instance) → Faithful l (a ++ x ∷ y ∷ b) → Faithful l (a ++ y ∷ x ∷ b)

-- neighbours that conflict and differ may not
abbrev pub ExchangeBreaks : Instance → Instance → Type 0
ExchangeBreaks x y = Conflict x y → x ≢ y → (l a b : List Instance) → Faithful l (a ++ x ∷ y ∷ b) → Faithful l (a ++ y ∷ x ∷ b) → ⊥

-- how a record that is taken changes the version and the tally of each cell
abbrev pub ShadowMoves : Type 0
ShadowMoves = (r : List Instance) (i : Instance) (c : ℕ) → (version c (r ++ i ∷ []) ≡ version c r + (if i.written == c then 1 else 0)) × (tally c (r ++ i ∷ []) ≡ (if i.written == c then 0 else tally c r + slots_of c i))

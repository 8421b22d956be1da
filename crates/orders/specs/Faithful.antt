-- Faithful orders of a list of instances. A record is spoken of as the instance that it means.
use Rattle.std.specs.Prelude.{◌≡◌, ℕ, ◌<◌, ◌⊎◌, List, ◌∷◌, ◌++◌, length, Contains, Some}
use Rattle.std.specs.List.{slice_get}
use Rattle.records.specs.Instance.{Instance}

-- the cells that an instance writes or reads
abbrev pub touched : Instance → List ℕ
touched i = i.written ∷ i.reads

-- one of the two writes a cell that the other reads or writes
abbrev pub Conflict : Instance → Instance → Type 0
Conflict i j = Contains (touched j) i.written ⊎ Contains (touched i) j.written

-- each record has a place in the list, and each place one record, which shows the instance there; two that conflict
-- come in the sequence of their places
pub record Match (l r : List Instance) (place : ℕ → ℕ) : Type 0 where
  pub same_length : length r ≡ length l
  pub in_range : (i : ℕ) → i < length r → place i < length l
  pub one_to_one : (i j : ℕ) → i < length r → j < length r → place i ≡ place j → i ≡ j
  pub shows : (i : ℕ) → i < length r → slice_get l (place i) ≡ slice_get r i
  pub keeps : (i j : ℕ) (a b : Instance) → slice_get r i ≡ Some a → slice_get r j ≡ Some b → Conflict a b → place i < place j → i < j

-- the records r are a faithful order of the list l
abbrev pub Faithful : List Instance → List Instance → Type 0
Faithful l r = (place : ℕ → ℕ) × Match l r place

-- the records r begin a faithful order of l: with some more after them, or none, they are one
abbrev pub Begins : List Instance → List Instance → Type 0
Begins l r = (rest : List Instance) × Faithful l (r ++ rest)

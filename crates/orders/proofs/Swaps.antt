-- Deciding whether records conflict, and exchanging two of a slice.
use Rattle.std.proofs.Common.{◌≡◌, ℕ, zero, suc, ◌+◌, ◌<◌, Bool, List, [], ◌∷◌, ◌++◌, map, length, get_or, set, Some, Decides, sym, refl, ap, ◌∙◌, subst₂, add-one, arith}
use Rattle.std.proofs.lemmas.List.{get_or_default, map-append}
use Rattle.std.proofs.lemmas.Option.{slice_get_read, slice_get-map}
use Rattle.std.specs.Option.{option_map}
use Rattle.std.specs.List.{Contains, slice_get}
use Rattle.records.specs.Instance.{Instance}
use Rattle.orders.proofs.Cells.{count_behind, counted_has, has_counted}
use Rattle.orders.proofs.Exchanges.{exchange_keeps}
use Rattle.orders.specs.Faithful.{Conflict, Faithful}
use Rattle.orders.specs.Neighbours.{FreeAt}

-- where y does not stand in front, the rest decides whether a list has it
pub decides_behind : (x y : ℕ) (xs : List ℕ) (r : Bool) → (x ≡ y → ⊥) → Decides r (Contains xs y) → Decides r (Contains (x ∷ xs) y)
decides_behind x y xs r ne (yes_if, if_yes) = (
  λ e. counted_has y (x ∷ xs) (omega (arith, count_behind y x xs ne, has_counted y xs (yes_if e))),
  λ h. if_yes (counted_has y xs (omega (arith, count_behind y x xs ne, has_counted y (x ∷ xs) h))),
)

-- a list around two neighbours, and with these exchanged
pub split_two : {X : Type 0} (xs : List X) (k : ℕ) (x y : X) → slice_get xs k ≡ Some x → slice_get xs (suc k) ≡ Some y → (a : List X) × (b : List X) × (xs ≡ a ++ x ∷ y ∷ b) × (set (set xs k y) (suc k) x ≡ a ++ y ∷ x ∷ b)
split_two [] k x y e f = absurd (cc)
split_two (z ∷ []) zero x y e f = absurd (cc)
split_two (z ∷ (w ∷ xs)) zero x y e f = ([], xs, (cc), refl)
split_two (z ∷ xs) (suc k) x y e f =
    let (a, b, was, is) = split_two xs k x y e f in
    (z ∷ a, b, ap (λ u. z ∷ u) was, ap (λ u. z ∷ u) is)

module _ {X : Type 0} (f : X → Instance) (xs : List X) (k : ℕ) (x y : X) (first : x ≡ get_or xs k x) (second : y ≡ get_or xs (k + 1) y) (inside : k + 1 < length xs) where
  there : slice_get xs k ≡ Some x
  there = slice_get_read xs (length xs) k x refl (omega arith) first

  after : slice_get xs (suc k) ≡ Some y
  after = ap (slice_get xs) (sym (add-one k)) ∙ slice_get_read xs (length xs) (k + 1) y refl inside second

  -- neighbours that do not conflict, and those that do
  pub free_from : (Conflict (f x) (f y) → ⊥) → FreeAt (map f xs) k
  free_from free = record {
    first = f x;
    second = f y;
    first_there = slice_get-map f xs k ∙ ap (option_map f) there;
    second_there = slice_get-map f xs (suc k) ∙ ap (option_map f) after;
    free = free;
  }

  pub bound_from : Conflict (f x) (f y) → FreeAt (map f xs) k → ⊥
  bound_from conflict h =
      let p = h.first_there in
      let q = h.second_there in
      let r = slice_get-map f xs k ∙ ap (option_map f) there in
      let s = slice_get-map f xs (suc k) ∙ ap (option_map f) after in
      let same : f x ≡ h.first = cc in
      let other : f y ≡ h.second = cc in
      h.free (subst₂ Conflict same other conflict)

  -- what an exchange leaves is as faithful as what was there
  pub exchange_faithful : (Conflict (f x) (f y) → ⊥) → (ys : List X) → ((d : X) → ys ≡ set (set xs k (get_or xs (k + 1) d)) (k + 1) (get_or xs k d)) → (l : List Instance) → Faithful l (map f xs) → Faithful l (map f ys)
  exchange_faithful free ys left l h =
      let (a, b, was, is) = split_two xs k x y there after in
      let put : ys ≡ a ++ y ∷ x ∷ b = left x ∙ (ap (λ v. set (set xs k v) (k + 1) (get_or xs k x)) (get_or_default xs (k + 1) x y inside ∙ sym second) ∙ (ap (λ v. set (set xs k y) (k + 1) v) (sym first) ∙ (ap (λ n. set (set xs k y) n x) (add-one k) ∙ is))) in
      let held : Faithful l (map f a ++ f x ∷ f y ∷ map f b) = rw (was, map-append) at h in
      rw (put, map-append) (exchange_keeps (f x) (f y) free l (map f a) (map f b) held)

-- Elements of a list by their place.
use Rattle.std.proofs.Common.{◌≡◌, ℕ, ◌<◌, List, length, Some, None, Option, sym, refl, inl, inr, ap, ◌∙◌, arith, Bor}
use Rattle.std.proofs.lemmas.Option.{slice_get_cases, slice_get-get_or, slice_get_past}
use Rattle.std.specs.Option.{option_map}
use Rattle.std.specs.Slice.{IsGetResult}
use Rattle.std.specs.List.{slice_get}

-- one step after another, in one
pub mapped_twice : {X Y Z : Type 0} (f : Y → Z) (g : X → Y) (h : X → Z) → ((x : X) → f (g x) ≡ h x) → (o : Option X) → option_map f (option_map g o) ≡ option_map h o
mapped_twice f g h e None = refl
mapped_twice f g h e (Some x) = ap Some (e x)

-- what `get` answers
pub item_nth : {X : Type 0} (xs : List X) (i : ℕ) (r : Option (Bor X)) → IsGetResult xs i i r → option_map (λ x. x.now) r ≡ slice_get xs i
item_nth xs i None h = sym (slice_get_past xs i h.3)
item_nth xs i (Some x) h = let (l, is) = h.3 in ap Some (is x.now) ∙ sym (slice_get-get_or xs i x.now l)

-- a position below the length has an element
pub nth_there : {X : Type 0} (l : List X) (p : ℕ) → p < length l → (i : X) × (slice_get l p ≡ Some i)
nth_there l p h =
    elim (slice_get_cases l p).1 [
      | inl (i, _, is, _) ↦ (i, is)
      | inr (past, _) ↦ absurd (omega arith)
    ]

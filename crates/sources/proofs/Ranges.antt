-- Sums over the numbers of a range.
use Rattle.std.proofs.Common.{◌≡◌, ℕ, zero, suc, ◌+◌, ◌-◌, Bool, true, false, List, ◌∷◌, map, sum, sym, refl, ap, ◌∙◌, add-one, zero-add, arith}
use Rattle.std.proofs.lemmas.Iterator.{YieldsList}
use Rattle.std.proofs.lemmas.Iterator.Consumers.{YieldsList-from_shown}
use Rattle.std.proofs.lemmas.List.FromFn.{length-range_with_len, sum_by-map-range_with_len_more}
use Rattle.std.specs.declared.ops.RangeInclusive.{RangeInclusive}
use Rattle.std.specs.List.{range_with_len}
use Rattle.std.specs.Range.{range_inclusive_end, range_inclusive_exhausted, range_inclusive_left, range_inclusive_len, range_inclusive_start, range_inclusive_steps}
use Rattle.sources.specs.Numbers.{total}

pub sum_of_range : (f : ℕ → ℕ) (n : ℕ) → sum (map f (range_with_len 0 n)) ≡ total f n
unfolding total
sum_of_range f zero = refl
sum_of_range f (suc n) = ap (λ k. sum (map f (range_with_len 0 k))) (sym (add-one n)) ∙ omega (arith, sum_by-map-range_with_len_more (λ x. x) f 0 n n (zero-add n), sum_of_range f n)

-- what is left of a range
abbrev left : RangeInclusive ℕ → List ℕ
left s = range_with_len (range_inclusive_start s) (range_inclusive_left (λ a b. b - a) s)

next : (a b n m : ℕ) (spent : Bool) → range_inclusive_len (λ a b. b - a) b n spent + 1 ≡ m → (spent ≡ false → b ≡ a + 1) → range_with_len a m ≡ a ∷ range_with_len b (range_inclusive_len (λ a b. b - a) b n spent)
next a b n m true e h = ap (range_with_len a) (sym e)
next a b n m false e h = rw (← e, h refl, add-one) refl

-- 0..=n
pub yields_through : {s : RangeInclusive ℕ} (n : ℕ) → range_inclusive_start s ≡ 0 → range_inclusive_end s ≡ n → range_inclusive_exhausted s ≡ false → YieldsList (range_inclusive_steps (λ a b. b - a) (λ a b. b ≡ a + 1)) (λ x. x) s (range_with_len 0 (n + 1))
yields_through {s} n first last fresh =
    let many : range_inclusive_left (λ a b. b - a) s ≡ n + 1 = rw (first, last, fresh) (omega arith) in
    rw (← many, ← first)
    (YieldsList-from_shown _ _ left (λ s t h. length-range_with_len (range_inclusive_start s) _ ∙ h.1.0) (λ s x t h. rw h.1.0 (next (range_inclusive_start s) (range_inclusive_start t) (range_inclusive_end t) _ (range_inclusive_exhausted t) h.1.1 h.1.2)) s)

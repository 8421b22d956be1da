-- The first number below n that passes.
use Rattle.std.proofs.Common.{◌≡◌, ℕ, zero, suc, ◌+◌, ◌<◌, Bool, true, false, Some, None, Option, sym, refl, ap, ◌∙◌, add-zero, add-suc, arith}
use Rattle.std.specs.Option.{option_map, option_or}
use Rattle.std.specs.Bool.{then_some}
use Rattle.sources.specs.Numbers.{least}

pub least_same : (s t : ℕ → Bool) (n : ℕ) → ((k : ℕ) → k < n → s k ≡ t k) → least s n ≡ least t n
unfolding least
least_same s t zero h = refl
least_same s t (suc n) h = rw (least_same s t n (λ k l. h k (omega arith)), h n (omega arith)) refl

or_none : (o : Option ℕ) → option_or o None ≡ o
or_none None = refl
or_none (Some x) = refl

or_moved : (a n : ℕ) (o p : Option ℕ) (t : Bool) → option_or (option_or o (option_map (λ k. a + k) p)) (then_some t (a + n)) ≡ option_or o (option_map (λ k. a + k) (option_or p (then_some t n)))
or_moved a n (Some x) p t = refl
or_moved a n None (Some y) t = refl
or_moved a n None None true = refl
or_moved a n None None false = refl

pub least_split : (test : ℕ → Bool) (a b : ℕ) → least test (a + b) ≡ option_or (least test a) (option_map (λ k. a + k) (least (λ k. test (a + k)) b))
unfolding least
least_split test a zero = rw (add-zero a) (sym (or_none (least test a)))
least_split test a (suc b) = rw (add-suc a b, least_split test a b) (or_moved a b (least test a) (least (λ k. test (a + k)) b) (test (a + b)))

-- what is found passes
passes_step : (test : ℕ → Bool) (n p : ℕ) (o : Option ℕ) (t : Bool) → test n ≡ t → (o ≡ Some p → (test p ≡ true) × (p < n)) → option_or o (then_some t n) ≡ Some p → (test p ≡ true) × (p < suc n)
passes_step test n p (Some x) t is h e = let (a, b) = h e in (a, omega arith)
passes_step test n p None true is h e = let same : n ≡ p = cc in (ap test (sym same) ∙ is, omega arith)
passes_step test n p None false is h e = absurd (cc)

pub least_passes : (test : ℕ → Bool) (n p : ℕ) → least test n ≡ Some p → (test p ≡ true) × (p < n)
unfolding least
least_passes test zero p e = absurd (cc)
least_passes test (suc n) p e = passes_step test n p (least test n) (test n) refl (least_passes test n p) e

-- Totals over the numbers below n.
use Rattle.std.proofs.Common.{◌≡◌, ℕ, zero, suc, ◌+◌, ◌-◌, ◌*◌, ◌<◌, ◌≤◌, cond, eqb, sym, refl, ap, ◌∙◌, inl, inr, add-zero, add-suc, add-one, arith}
use Rattle.std.proofs.lemmas.Bool.{cases_eq, eq-eqb, ne_eqb}
use Rattle.sources.specs.Numbers.{total}

pub total_more : (f : ℕ → ℕ) (n : ℕ) → total f (n + 1) ≡ total f n + f n
unfolding total
total_more f n = ap (total f) (add-one n)

pub total_same : (f g : ℕ → ℕ) (n : ℕ) → ((k : ℕ) → k < n → f k ≡ g k) → total f n ≡ total g n
unfolding total
total_same f g zero h = refl
total_same f g (suc n) h = omega (arith, total_same f g n (λ k l. h k (omega arith)), h n (omega arith))

pub total_none : (f : ℕ → ℕ) (n : ℕ) → ((k : ℕ) → k < n → f k ≡ 0) → total f n ≡ 0
unfolding total
total_none f zero h = refl
total_none f (suc n) h = omega (arith, total_none f n (λ k l. h k (omega arith)), h n (omega arith))

pub total_at_most : (f : ℕ → ℕ) (m n : ℕ) → ((k : ℕ) → k < n → f k ≤ m) → total f n ≤ n * m
unfolding total
total_at_most f m zero h = omega arith
total_at_most f m (suc n) h = omega (arith, total_at_most f m n (λ k l. h k (omega arith)), h n (omega arith))

pub total_split : (f : ℕ → ℕ) (a b : ℕ) → total f (a + b) ≡ total f a + total (λ k. f (a + k)) b
unfolding total
total_split f a zero = ap (total f) (add-zero a) ∙ sym (add-zero (total f a))
total_split f a (suc b) = ap (total f) (add-suc a b) ∙ omega (arith, total_split f a b)

-- a total grows with its bound
pub total_grows : (f : ℕ → ℕ) (a b : ℕ) → a ≤ b → total f a ≤ total f b
total_grows f a b h = omega (arith, total_split f a (b - a), ap (total f) (the_sum))
  where
    the_sum : a + (b - a) ≡ b
    the_sum = omega arith

pub total_plus : (f g : ℕ → ℕ) (n : ℕ) → total (λ k. f k + g k) n ≡ total f n + total g n
unfolding total
total_plus f g zero = refl
total_plus f g (suc n) = omega (arith, total_plus f g n)

-- rows first or columns first
pub total_swap : (f : ℕ → ℕ → ℕ) (m n : ℕ) → total (λ j. total (λ k. f j k) n) m ≡ total (λ k. total (λ j. f j k) m) n
unfolding total
total_swap f zero n = sym (total_none (λ k. total (λ j. f j k) zero) n (λ k l. refl))
total_swap f (suc m) n = omega (arith, total_swap f m n, total_plus (λ k. total (λ j. f j k) m) (λ k. f m k) n)

-- one of the numbers below n is a, and only there stands x
pub total_one : (a x n : ℕ) → a < n → total (λ k. cond (eqb a k) x 0) n ≡ x
unfolding total
total_one a x zero h = absurd (omega arith)
total_one a x (suc n) h =
    elim (cases_eq a n) [
      | inl e ↦ rw (eq-eqb a n e) (omega (arith, total_none (λ k. cond (eqb a k) x 0) n (λ k l. rw (ne_eqb a k (λ z. omega arith)) refl)))
      | inr ne ↦ rw (ne_eqb a n ne) (omega (arith, total_one a x n (omega arith)))
    ]

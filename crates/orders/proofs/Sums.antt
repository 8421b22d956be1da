-- More on totals over the numbers below n.
use Rattle.std.proofs.Common.{◌≡◌, ℕ, zero, suc, ◌+◌, ◌-◌, ◌<◌, ◌≤◌, ◌⊎◌, ap, ◌∙◌, inl, inr, arith}
use Rattle.std.proofs.lemmas.Bool.{cases_eq, cases_lt}
use Rattle.sources.proofs.Totals.{total_grows, total_none, total_split}
use Rattle.sources.specs.Numbers.{total}

pub total_below : (f g : ℕ → ℕ) (n : ℕ) → ((k : ℕ) → k < n → f k ≤ g k) → total f n ≤ total g n
unfolding total
total_below f g zero h = omega arith
total_below f g (suc n) h = omega (arith, total_below f g n (λ k b. h k (omega arith)), h n (omega arith))

-- pointwise at most, and no smaller in total, so pointwise equal
pub total_tight : (f g : ℕ → ℕ) (n : ℕ) → ((k : ℕ) → k < n → f k ≤ g k) → total g n ≤ total f n → (k : ℕ) → k < n → f k ≡ g k
unfolding total
total_tight f g zero h t k b = absurd (omega arith)
total_tight f g (suc n) h t k b =
    elim (cases_eq k n) [
      | inl e ↦ rw e (omega (arith, h n (omega arith), total_below f g n (λ k b. h k (omega arith))))
      | inr ne ↦ total_tight f g n (λ k b. h k (omega arith)) (omega (arith, h n (omega arith))) k (omega arith)
    ]

-- past a nothing is added
pub total_cut : (f : ℕ → ℕ) (a b : ℕ) → a ≤ b → ((k : ℕ) → a ≤ k → k < b → f k ≡ 0) → total f b ≡ total f a
total_cut f a b h none =
    let sum : b ≡ a + (b - a) = omega arith in
    ap (total f) sum ∙ omega (arith, total_split f a (b - a), total_none (λ k. f (a + k)) (b - a) (λ k l. none (a + k) (omega arith) (omega arith)))

-- one number of 0 and 1 for each place, less than the places in all: the first place that has none
pub first_none : (t : ℕ → ℕ) (n : ℕ) → ((q : ℕ) → q < n → 1 ≤ t q) ⊎ ((p : ℕ) × (p < n) × (t p ≡ 0) × ((q : ℕ) → q < p → 1 ≤ t q))
first_none t zero = inl (λ q b. absurd (omega arith))
first_none t (suc n) =
    elim (first_none t n) [
      | inl all ↦ elim (cases_eq (t n) 0) [
        | inl e ↦ inr (n, omega arith, e, all)
        | inr ne ↦ inl (λ q b. elim (cases_eq q n) [
          | inl e ↦ rw e (omega arith)
          | inr other ↦ all q (omega arith)
        ])
      ]
      | inr found ↦ inr (found.0, omega (arith, found.1), found.2, found.3)
    ]

-- something is added between a and b, so at some place
pub total_rises : (f : ℕ → ℕ) (a b : ℕ) → total f a < total f b → (q : ℕ) × (a ≤ q) × (q < b) × (1 ≤ f q)
unfolding total
total_rises f a zero h = absurd (omega arith)
total_rises f a (suc b) h =
    elim (cases_eq (f b) 0) [
      | inl e ↦ let (q, x, y, z) = total_rises f a b (omega arith) in (q, x, omega arith, z)
      | inr ne ↦ elim (cases_lt b a) [
        | inl past ↦ absurd (omega (arith, total_grows f (suc b) a past))
        | inr upto ↦ (b, upto, omega arith, omega arith)
      ]
    ]

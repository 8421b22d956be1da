-- The places that the first n of some records take, as numbers: how often each is taken.
use Rattle.std.proofs.Common.{◌≡◌, ℕ, zero, suc, ◌+◌, ◌<◌, ◌≤◌, Bool, cond, eqb, sym, refl, ap, ◌∙◌, inl, inr, arith}
use Rattle.std.proofs.lemmas.Bool.{cases_eq, eq-eqb, ne_eqb}
use Rattle.sources.proofs.Totals.{total_grows, total_none, total_one, total_plus, total_same}
use Rattle.sources.specs.Numbers.{total}
use Rattle.orders.proofs.Sums.{first_none, total_below, total_tight}

-- how often q is among the first n places
pub times : (ℕ → ℕ) → ℕ → ℕ → ℕ
times place q n = total (λ j. cond (eqb (place j) q) 1 0) n

pub times_none : (place : ℕ → ℕ) (q : ℕ) → times place q 0 ≡ 0
unfolding times total
times_none place q = refl

pub times_taken : (place : ℕ → ℕ) (q n : ℕ) → place n ≡ q → times place q (suc n) ≡ times place q n + 1
unfolding times total
times_taken place q n e = ap (λ (t : Bool). total (λ j. cond (eqb (place j) q) 1 0) n + cond t 1 0) (eq-eqb (place n) q e)

pub times_other : (place : ℕ → ℕ) (q n : ℕ) → (place n ≡ q → ⊥) → times place q (suc n) ≡ times place q n
unfolding times total
times_other place q n ne = omega (arith, ap {B = ℕ} (λ (t : Bool). cond t 1 0) (ne_eqb (place n) q ne))

pub times_grows : (place : ℕ → ℕ) (q a b : ℕ) → a ≤ b → times place q a ≤ times place q b
unfolding times
times_grows place q a b h = total_grows (λ j. cond (eqb (place j) q) 1 0) a b h

pub times_here : (place : ℕ → ℕ) (j n : ℕ) → j < n → 1 ≤ times place (place j) n
times_here place j n h = omega (arith, times_taken place (place j) j refl, times_grows place (place j) (suc j) n h)

pub times_there : (place : ℕ → ℕ) (q n : ℕ) → 1 ≤ times place q n → (j : ℕ) × (j < n) × (place j ≡ q)
times_there place q zero h = absurd (omega (arith, times_none place q))
times_there place q (suc n) h =
    elim (cases_eq (place n) q) [
      | inl e ↦ (n, omega arith, e)
      | inr ne ↦ let (j, b, e) = times_there place q n (omega (arith, times_other place q n ne)) in (j, omega arith, e)
    ]

-- only the first n places count
pub times_same : (place other : ℕ → ℕ) (q n : ℕ) → ((j : ℕ) → j < n → place j ≡ other j) → times place q n ≡ times other q n
unfolding times
times_same place other q n h =
    total_same (λ j. cond (eqb (place j) q) 1 0) (λ j. cond (eqb (other j) q) 1 0) n
    (λ j b. ap (λ (p : ℕ). cond (eqb p q) 1 0) (h j b))

-- x where something is taken, else nothing
pub kept : ℕ → ℕ → ℕ
kept zero x = 0
kept (suc t) x = x

pub kept_none : (t x : ℕ) → t ≡ 0 → kept t x ≡ 0
unfolding kept
kept_none zero x e = refl
kept_none (suc t) x e = absurd (omega arith)

pub kept_all : (t x : ℕ) → 1 ≤ t → kept t x ≡ x
unfolding kept
kept_all zero x h = absurd (omega arith)
kept_all (suc t) x h = refl

pub kept_most : (t x : ℕ) → kept t x ≤ x
unfolding kept
kept_most zero x = omega arith
kept_most (suc t) x = omega arith

pub kept_says : (t x : ℕ) → 1 ≤ kept t x → 1 ≤ t
unfolding kept
kept_says zero x h = h
kept_says (suc t) x h = omega arith

-- one place more
kept_next : (f place : ℕ → ℕ) (q n : ℕ) → times place (place n) n ≡ 0 → kept (times place q (suc n)) (f q) ≡ kept (times place q n) (f q) + cond (eqb (place n) q) (f (place n)) 0
kept_next f place q n new =
    elim (cases_eq (place n) q) [
      | inl e ↦
          let none : times place q n ≡ 0 = rw e at new in
          omega (arith, kept_all (times place q (suc n)) (f q) (omega (arith, times_taken place q n e)), kept_none (times place q n) (f q) none, ap f e, ap {B = ℕ} (λ (t : Bool). cond t (f (place n)) 0) (eq-eqb (place n) q e))
      | inr ne ↦
          omega (arith, ap (λ (t : ℕ). kept t (f q)) (times_other place q n ne), ap {B = ℕ} (λ (t : Bool). cond t (f (place n)) 0) (ne_eqb (place n) q ne))
    ]

-- distinct places below m
abbrev pub Distinct : ℕ → (ℕ → ℕ) → ℕ → Type 0
Distinct m place n = (j : ℕ) → j < n → (place j < m) × (times place (place j) j ≡ 0)

-- a sum over distinct places below m is a total over all that are taken
pub sum_over : (f place : ℕ → ℕ) (m n : ℕ) → Distinct m place n → total (λ j. f (place j)) n ≡ total (λ q. kept (times place q n) (f q)) m
unfolding total
sum_over f place m zero h = sym (total_none (λ q. kept (times place q 0) (f q)) m (λ q b. kept_none (times place q 0) (f q) (times_none place q)))
sum_over f place m (suc n) h =
    let (inside, new) = h n (omega arith) in
    omega (
      arith,
      sum_over f place m n (λ j b. h j (omega arith)),
      total_same (λ q. kept (times place q (suc n)) (f q)) (λ q. kept (times place q n) (f q) + cond (eqb (place n) q) (f (place n)) 0) m (λ q b. kept_next f place q n new),
      total_plus (λ q. kept (times place q n) (f q)) (λ q. cond (eqb (place n) q) (f (place n)) 0) m,
      total_one (place n) (f (place n)) m inside,
    )

total_ones : (n : ℕ) → total (λ k. 1) n ≡ n
unfolding total
total_ones zero = refl
total_ones (suc n) = omega (arith, total_ones n)

-- how many places are taken
taken_total : (m : ℕ) (place : ℕ → ℕ) (n : ℕ) → Distinct m place n → total (λ q. kept (times place q n) 1) m ≡ n
taken_total m place n h = sym (sum_over (λ q. 1) place m n h) ∙ total_ones n

pub distinct_few : (m : ℕ) (place : ℕ → ℕ) (n : ℕ) → Distinct m place n → n ≤ m
distinct_few m place n h = omega (arith, taken_total m place n h, total_below (λ q. kept (times place q n) 1) (λ q. 1) m (λ q b. kept_most (times place q n) 1), total_ones m)

-- m distinct places below m are all of them
pub distinct_all : (m : ℕ) (place : ℕ → ℕ) → Distinct m place m → (q : ℕ) → q < m → 1 ≤ times place q m
distinct_all m place h q b =
    let tight = total_tight (λ q. kept (times place q m) 1) (λ q. 1) m (λ q b. kept_most (times place q m) 1) (omega (arith, taken_total m place m h, total_ones m)) q b in
    kept_says (times place q m) 1 (omega arith)

-- of fewer there is a first one that is missing
pub distinct_missing : (m : ℕ) (place : ℕ → ℕ) (n : ℕ) → Distinct m place n → n < m → (p : ℕ) × (p < m) × (times place p n ≡ 0) × ((q : ℕ) → q < p → 1 ≤ times place q n)
distinct_missing m place n h b =
    elim (first_none (λ q. times place q n) m) [
      | inl all ↦ absurd (omega (arith, taken_total m place n h, total_same (λ q. kept (times place q n) 1) (λ q. 1) m (λ q c. kept_all (times place q n) 1 (all q c)), total_ones m))
      | inr found ↦ found
    ]

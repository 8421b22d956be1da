-- Exchanging two neighbours of an order.
use Rattle.std.proofs.Common.{◌≡◌, ℕ, zero, suc, ◌+◌, ◌<◌, ◌≤◌, eqb, ◌≢◌, ◌⊎◌, List, [], ◌∷◌, ◌++◌, length, Some, sym, refl, ap, ◌∙◌, subst₂, inl, inr, arith, length-append}
use Rattle.std.proofs.lemmas.Option.{slice_get_within}
use Rattle.std.proofs.lemmas.List.{append_assoc}
use Rattle.std.proofs.lemmas.Bool.{cases_eq, cond-false, cond-true, eq-eqb, ne_eqb}
use Rattle.std.specs.List.{Contains, slice_get}
use Rattle.records.specs.Instance.{Instance}
use Rattle.sources.proofs.Items.{nth_there}
use Rattle.sources.proofs.Joined.{nth_right}
use Rattle.sources.specs.Questions.{earlier, writer}
use Rattle.orders.proofs.Cells.{all_counted, count, count_behind, has_counted}
use Rattle.orders.proofs.Relations.{orders_compose}
use Rattle.orders.proofs.Shadows.{version_more}
use Rattle.orders.proofs.Wholes.{begins_next}
use Rattle.orders.specs.Faithful.{Conflict, Faithful, Match, touched}
use Rattle.orders.specs.Taking.{MayTake, version}
use Rattle.orders.specs.Theorems.{ExchangeBreaks, ExchangeKeeps}

-- k and the number after it change places
swap : ℕ → ℕ → ℕ
swap zero zero = 1
swap zero (suc zero) = 0
swap zero (suc (suc j)) = suc (suc j)
swap (suc k) zero = 0
swap (suc k) (suc j) = suc (swap k j)

swap_twice : (k j : ℕ) → swap k (swap k j) ≡ j
unfolding swap
swap_twice zero zero = refl
swap_twice zero (suc zero) = refl
swap_twice zero (suc (suc j)) = refl
swap_twice (suc k) zero = refl
swap_twice (suc k) (suc j) = ap suc (swap_twice k j)

-- the sequence changes at these two only
swap_order : (k i j : ℕ) → swap k i < swap k j → (i < j) ⊎ ((i ≡ suc k) × (j ≡ k))
unfolding swap
swap_order zero zero zero h = absurd (omega arith)
swap_order zero zero (suc zero) h = absurd (omega arith)
swap_order zero zero (suc (suc j)) h = inl (omega arith)
swap_order zero (suc zero) zero h = inr (refl, refl)
swap_order zero (suc zero) (suc zero) h = absurd (omega arith)
swap_order zero (suc zero) (suc (suc j)) h = inl (omega arith)
swap_order zero (suc (suc i)) zero h = absurd (omega arith)
swap_order zero (suc (suc i)) (suc zero) h = absurd (omega arith)
swap_order zero (suc (suc i)) (suc (suc j)) h = inl h
swap_order (suc k) zero zero h = absurd (omega arith)
swap_order (suc k) zero (suc j) h = inl (omega arith)
swap_order (suc k) (suc i) zero h = absurd (omega arith)
swap_order (suc k) (suc i) (suc j) h =
    elim (swap_order k i j (omega arith)) [
      | inl less ↦ inl (omega arith)
      | inr these ↦ inr (ap suc these.0, ap suc these.1)
    ]

swap_shows : {X : Type 0} (a b : List X) (x y : X) (j : ℕ) → slice_get (a ++ x ∷ y ∷ b) (swap (length a) j) ≡ slice_get (a ++ y ∷ x ∷ b) j
unfolding swap
swap_shows [] b x y zero = refl
swap_shows [] b x y (suc zero) = refl
swap_shows [] b x y (suc (suc j)) = refl
swap_shows (z ∷ a) b x y zero = refl
swap_shows (z ∷ a) b x y (suc j) = swap_shows a b x y j

-- the exchanged list is a faithful order of the list, where the two do not conflict
exchanged : (x y : Instance) → (Conflict x y → ⊥) → (a b : List Instance) → Match (a ++ x ∷ y ∷ b) (a ++ y ∷ x ∷ b) (swap (length a))
exchanged x y free a b = record {
  same_length = omega (arith, length-append a (x ∷ y ∷ b), length-append a (y ∷ x ∷ b));
  in_range = λ i h. let (z, e) = nth_there (a ++ y ∷ x ∷ b) i h in slice_get_within (a ++ x ∷ y ∷ b) (swap (length a) i) z (swap_shows a b x y i ∙ e);
  one_to_one = λ i j h k e. sym (swap_twice (length a) i) ∙ (ap (swap (length a)) e ∙ swap_twice (length a) j);
  shows = λ i h. swap_shows a b x y i;
  keeps = keeps;
}
  where
    at : (k j : ℕ) → j ≡ length a + k → slice_get (a ++ y ∷ x ∷ b) j ≡ slice_get (y ∷ x ∷ b) k
    at k j e = ap (slice_get (a ++ y ∷ x ∷ b)) e ∙ nth_right a (y ∷ x ∷ b) k

    keeps : (i j : ℕ) (p q : Instance) → slice_get (a ++ y ∷ x ∷ b) i ≡ Some p → slice_get (a ++ y ∷ x ∷ b) j ≡ Some q → Conflict p q → swap (length a) i < swap (length a) j → i < j
    keeps i j p q e f conflict less =
        elim (swap_order (length a) i j less) [
          | inl before ↦ before
          | inr these ↦
              let second = at 1 i (omega (arith, these.0)) in
              let first = at 0 j (omega (arith, these.1)) in
              let same_x : p ≡ x = cc in
              let same_y : q ≡ y = cc in
              absurd (free (subst₂ Conflict same_x same_y conflict))
        ]

pub exchange_keeps : (x y : Instance) → ExchangeKeeps x y
exchange_keeps x y free l a b f = orders_compose l (a ++ x ∷ y ∷ b) (a ++ y ∷ x ∷ b) f (swap (length a), exchanged x y free a b)

-- y is taken both before and after x, which writes a cell that y touches
clash : (l a : List Instance) (x y : Instance) → MayTake l a x → MayTake l a y → MayTake l (a ++ x ∷ []) y → x ≢ y → Contains (touched y) x.written → ⊥
clash l a x y ((p, mx), _) ((q, my), _) ((n, late), _) differ h =
    elim (cases_eq y.written x.written) [
      | inl same ↦
          let there : writer x.written (version x.written a) l ≡ Some q = rw same at my.named in
          let one : p ≡ q = cc in
          let shown = mx.shown in
          let other = my.shown in
          let equal : x ≡ y = cc in
          differ equal
      | inr other ↦
          let c = x.written in
          let reads : 1 ≤ count c y.reads = omega (arith, has_counted c (touched y) h, count_behind c y.written y.reads other) in
          let stays : version y.written (a ++ x ∷ []) ≡ version y.written a = omega (arith, version_more a x y.written, cond-false {A = ℕ} (eqb c y.written) 1 0 (ne_eqb c y.written (λ e. other (sym e)))) in
          let named : writer y.written (version y.written a) l ≡ Some n = rw stays at late.named in
          let now = my.named in
          let one : n ≡ q = cc in
          omega (
            arith,
            all_counted (λ d. version d a ≡ earlier d q l) y.reads my.current c reads,
            all_counted (λ d. version d (a ++ x ∷ []) ≡ earlier d n l) y.reads late.current c reads,
            ap (λ (z : ℕ). earlier c z l) one,
            version_more a x c,
            cond-true {A = ℕ} (eqb c c) 1 0 (eq-eqb c c refl),
          )
    ]

-- neighbours of a faithful order may be taken one after the other
neighbours : (l a b : List Instance) (x y : Instance) → Faithful l (a ++ x ∷ y ∷ b) → MayTake l a x × MayTake l (a ++ x ∷ []) y
neighbours l a b x y f = (begins_next l a x (y ∷ b, rw append_assoc f), begins_next l (a ++ x ∷ []) y (b, simp append_assoc f))

pub exchange_breaks : (x y : Instance) → ExchangeBreaks x y
exchange_breaks x y (inl h) differ l a b f g =
    let (first, second) = neighbours l a b x y f in
    let (early, _) = neighbours l a b y x g in
    clash l a x y first early second differ h
exchange_breaks x y (inr h) differ l a b f g =
    let (first, second) = neighbours l a b y x g in
    let (early, _) = neighbours l a b x y f in
    clash l a y x first early second (λ e. differ (sym e)) h

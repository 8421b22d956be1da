-- A faithful order leaves the store of its list: cell by cell, along the order.
use Rattle.std.proofs.Common.{◌≡◌, ℕ, zero, suc, ◌+◌, ◌<◌, ◌≤◌, List, [], ◌∷◌, length, take, set, Some, sym, refl, ap, ◌∙◌, inl, inr, arith}
use Rattle.std.proofs.lemmas.List.{take_all}
use Rattle.std.proofs.lemmas.Bool.{cases_eq}
use Rattle.std.specs.Option.{option_map}
use Rattle.std.proofs.lemmas.List.Elements.{All-head, All-tail}
use Rattle.std.specs.List.{All, slice_get}
use Rattle.records.specs.Doing.{Arithmetic, done, in_front, leaves, values}
use Rattle.records.specs.Instance.{Instance}
use Rattle.sources.proofs.Items.{nth_there}
use Rattle.orders.proofs.Cells.{counted_all, reads_is, reads_of, slots_count, writes_below, writes_none, writes_of, writes_own}
use Rattle.orders.proofs.Placed.{Placed, ReadyAt}
use Rattle.orders.proofs.Places.{distinct_all, times, times_none, times_other, times_taken}
use Rattle.orders.proofs.Steps.{begun_distinct, writers_before}
use Rattle.orders.proofs.Wholes.{match_placed}
use Rattle.orders.specs.Theorems.{EqualStores}

-- what a put leaves in the cell and in the others
nth_set_same : {V : Type 0} (s : List V) (c : ℕ) (v : V) → slice_get (set s c v) c ≡ option_map (λ (x : V). v) (slice_get s c)
nth_set_same [] c v = refl
nth_set_same (x ∷ s) zero v = refl
nth_set_same (x ∷ s) (suc c) v = nth_set_same s c v

nth_set_other : {V : Type 0} (s : List V) (c d : ℕ) (v : V) → (c ≡ d → ⊥) → slice_get (set s c v) d ≡ slice_get s d
nth_set_other [] c d v ne = refl
nth_set_other (x ∷ s) zero zero v ne = absurd (ne refl)
nth_set_other (x ∷ s) zero (suc d) v ne = refl
nth_set_other (x ∷ s) (suc c) zero v ne = refl
nth_set_other (x ∷ s) (suc c) (suc d) v ne = nth_set_other s c d v (λ e. ne (ap suc e))

-- lists that agree at every place are equal
same_nth : {V : Type 0} (s t : List V) → ((c : ℕ) → slice_get s c ≡ slice_get t c) → s ≡ t
same_nth [] [] h = refl
same_nth [] (y ∷ t) h = let e = h 0 in absurd (cc)
same_nth (x ∷ s) [] h = let e = h 0 in absurd (cc)
same_nth (x ∷ s) (y ∷ t) h =
    let e = h 0 in
    let front : x ≡ y = cc in
    ap (λ v. v ∷ s) front ∙ ap (λ u. y ∷ u) (same_nth s t (λ c. h (suc c)))

values_same : {V : Type 0} (s t : List V) (cs : List ℕ) → All (λ c. slice_get s c ≡ slice_get t c) cs → values s cs ≡ values t cs
unfolding values
values_same s t [] h = refl
values_same s t (c ∷ cs) h = ap (λ o. in_front o (values s cs)) (All-head (λ d. slice_get s d ≡ slice_get t d) c cs h) ∙ ap (in_front (slice_get t c)) (values_same s t cs (All-tail (λ d. slice_get s d ≡ slice_get t d) c cs h))

done_other : {V : Type 0} (f : Arithmetic V) (i : Instance) (s : List V) (c : ℕ) → (i.written ≡ c → ⊥) → slice_get (done f i s) c ≡ slice_get s c
unfolding done
done_other f i s c ne = nth_set_other s i.written c (f i.operator (values s i.reads)) ne

-- stores that agree at the cells of an instance agree at the one that it writes
done_same : {V : Type 0} (f : Arithmetic V) (i : Instance) (s t : List V) → All (λ c. slice_get s c ≡ slice_get t c) i.reads → slice_get s i.written ≡ slice_get t i.written → slice_get (done f i s) i.written ≡ slice_get (done f i t) i.written
unfolding done
done_same {V} f i s t reads own =
    nth_set_same s i.written (f i.operator (values s i.reads))
    ∙ (ap (λ (vs : List V). option_map (λ (x : V). f i.operator vs) (slice_get s i.written)) (values_same s t i.reads reads)
    ∙ (ap (option_map (λ (x : V). f i.operator (values t i.reads))) own
    ∙ sym (nth_set_same t i.written (f i.operator (values t i.reads)))))

leaves_next : {V : Type 0} (f : Arithmetic V) (l : List Instance) (s : List V) (n : ℕ) (i : Instance) → slice_get l n ≡ Some i → leaves f (take (suc n) l) s ≡ done f i (leaves f (take n l) s)
unfolding leaves
leaves_next f [] s n i e = absurd (cc)
leaves_next f (x ∷ l) s zero i e = let same : x ≡ i = cc in ap (λ (y : Instance). done f y s) same
leaves_next f (x ∷ l) s (suc n) i e = leaves_next f l (done f x s) n i e

-- a cell stays as it is over instances that do not write it
leaves_skip : {V : Type 0} (f : Arithmetic V) (l : List Instance) (s : List V) (c a b : ℕ) → a ≤ b → b ≤ length l → ((q : ℕ) → a ≤ q → q < b → writes_of l c q ≡ 0) → slice_get (leaves f (take b l) s) c ≡ slice_get (leaves f (take a l) s) c
leaves_skip f l s c a zero h inside none = let e : 0 ≡ a = omega arith in ap (λ (n : ℕ). slice_get (leaves f (take n l) s) c) e
leaves_skip f l s c a (suc b) h inside none =
    elim (cases_eq a (suc b)) [
      | inl e ↦ ap (λ (n : ℕ). slice_get (leaves f (take n l) s) c) (sym e)
      | inr ne ↦
          let (i, e) = nth_there l b inside in
          ap (λ t. slice_get t c) (leaves_next f l s b i e)
          ∙ (done_other f i (leaves f (take b l) s) c (λ w. omega (arith, none b (omega arith) (omega arith), rw w at (writes_own l b i e)))
          ∙ leaves_skip f l s c a b (omega arith) (omega arith) (λ q x y. none q x (omega arith)))
    ]

-- of the writers of c, those among the first n places are just those before p
abbrev UpTo : List Instance → (ℕ → ℕ) → ℕ → ℕ → ℕ → Type 0
UpTo l place n c p = (q : ℕ) → 1 ≤ writes_of l c q → (q < p → 1 ≤ times place q n) × (1 ≤ times place q n → q < p)

module _ {V : Type 0} (f : Arithmetic V) (s : List V) (l r : List Instance) (place : ℕ → ℕ) (h : Placed l r place) where
  -- the cell c holds after the first n records what it holds after the first p instances
  abbrev SameCell : ℕ → ℕ → ℕ → Type 0
  SameCell n c p = slice_get (leaves f (take n r) s) c ≡ slice_get (leaves f (take p l) s) c

  -- an instance that may come next sees the writers before it
  ready_up_to : (n p c : ℕ) → n ≤ length r → ReadyAt l place p n → 1 ≤ writes_of l c p + reads_of l c p → UpTo l place n c p
  ready_up_to n p c b ready t q w = (
    λ before. ready.after_writes q c before w t,
    λ come. writers_before (length l) (writes_of l) (reads_of l) place n (λ j k. h.begun j (omega arith)) p q c ready.new t w come,
  )

  -- one record more
  cell_more : (n : ℕ) → n < length r → ((c p : ℕ) → p ≤ length l → UpTo l place n c p → SameCell n c p) → (c p : ℕ) → p ≤ length l → UpTo l place (suc n) c p → SameCell (suc n) c p
  cell_more n b before c p inside up_to =
      let (i, e) = nth_there r n b in
      let shown : slice_get l (place n) ≡ Some i = h.shown n b ∙ e in
      elim (cases_eq i.written c) [
        | inl same ↦ rw (← same) (written i e shown (rw (← same) at up_to))
        | inr other ↦
            ap (λ t. slice_get t c) (leaves_next f r s n i e)
            ∙ (done_other f i (leaves f (take n r) s) c other ∙ before c p inside (without i shown other))
      ]
    where
      without : (i : Instance) → slice_get l (place n) ≡ Some i → (i.written ≡ c → ⊥) → UpTo l place n c p
      without i shown other q w =
          let apart : place n ≡ q → ⊥ = λ z. omega (arith, writes_none l (place n) i shown c other, ap (writes_of l c) z) in
          let same = times_other place q n apart in
          (λ x. omega (arith, (up_to q w).0 x), λ x. (up_to q w).1 (omega arith))

      -- between the record's place and p nothing writes its cell
      past : (i : Instance) → slice_get l (place n) ≡ Some i → UpTo l place (suc n) i.written p → (q : ℕ) → suc (place n) ≤ q → q < p → writes_of l i.written q ≡ 0
      past i shown up q x y =
          elim (cases_eq (writes_of l i.written q) 0) [
            | inl e ↦ e
            | inr some ↦
                let come : 1 ≤ times place q n = omega (arith, (up q (omega arith)).0 y, times_other place q n (λ z. omega arith)) in
                absurd (omega (arith, (ready_up_to n (place n) i.written (omega arith) (h.begun n b) (omega (arith, writes_own l (place n) i shown)) q (omega arith)).1 come))
          ]

      written : (i : Instance) → slice_get r n ≡ Some i → slice_get l (place n) ≡ Some i → UpTo l place (suc n) i.written p → SameCell (suc n) i.written p
      written i e shown up =
          let d = i.written in
          let own = writes_own l (place n) i shown in
          let ready = h.begun n b in
          let first : place n < p = (up (place n) (omega arith)).1 (omega (arith, times_taken place (place n) n refl)) in
          let stays = leaves_skip f l s d (suc (place n)) p first inside (λ q x y. past i shown up q x y) in
          let reads : All (λ x. SameCell n x (place n)) i.reads = counted_all (λ x. SameCell n x (place n)) i.reads (λ x some. before x (place n) (omega arith) (ready_up_to n (place n) x (omega arith) ready (omega (arith, reads_is l x (place n) i shown, slots_count x i)))) in
          ap (λ t. slice_get t d) (leaves_next f r s n i e)
          ∙ (done_same f i (leaves f (take n r) s) (leaves f (take (place n) l) s) reads (before d (place n) (omega arith) (ready_up_to n (place n) d (omega arith) ready (omega arith)))
          ∙ (sym (ap (λ t. slice_get t d) (leaves_next f l s (place n) i shown)) ∙ sym stays))

  same_cell : (n : ℕ) → n ≤ length r → (c p : ℕ) → p ≤ length l → UpTo l place n c p → SameCell n c p
  same_cell zero b c p inside up = sym (leaves_skip f l s c 0 p (omega arith) inside (λ q x y. none q y))
    where
      none : (q : ℕ) → q < p → writes_of l c q ≡ 0
      none q y =
          elim (cases_eq (writes_of l c q) 0) [
            | inl e ↦ e
            | inr some ↦ absurd (omega (arith, (up q (omega arith)).0 y, times_none place q))
          ]
  same_cell (suc n) b c p inside up = cell_more n b (same_cell n (omega arith)) c p inside up

  same_store : length r ≡ length l → leaves f r s ≡ leaves f l s
  same_store e = same_nth (leaves f r s) (leaves f l s) (λ c. rw (take_all (length r) r (omega arith), take_all (length l) l (omega arith)) at (same_cell (length r) (omega arith) c (length l) (omega arith) (all c)))
    where
      all : (c : ℕ) → UpTo l place (length r) c (length l)
      all c q w = (
        λ b. rw e (distinct_all (length l) place (rw e at (begun_distinct (length l) (writes_of l) (reads_of l) place (length r) h.begun)) q b),
        λ come. writes_below l c q w,
      )

pub equal_stores : (V : Type 0) → EqualStores V
equal_stores V l r f s (place, m) = same_store f s l r place (match_placed l r place m) m.same_length

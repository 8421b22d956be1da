-- Matches, records that have their places, and records that were taken are one thing.
use Rattle.std.proofs.Common.{◌≡◌, ℕ, zero, suc, ◌+◌, ◌-◌, ◌<◌, ◌≤◌, List, [], ◌∷◌, ◌++◌, length, take, drop, Some, sym, refl, ap, ◌∙◌, inl, inr, arith, length-append}
use Rattle.std.proofs.lemmas.Option.{slice_get_within}
use Rattle.std.proofs.lemmas.List.{append_assoc, append-nil, length-take-le, take_all, take-append-drop}
use Rattle.std.proofs.lemmas.Bool.{cases_eq, cases_order}
use Rattle.std.specs.List.{slice_get}
use Rattle.records.specs.Instance.{Instance}
use Rattle.sources.proofs.Items.{nth_there}
use Rattle.orders.proofs.Cells.{conflict_at, conflict_reads, conflict_writes, reads_of, writes_of}
use Rattle.orders.proofs.Placed.{Placed, ReadyAt, next_ready, nth_last, placed_front, placed_more, placed_none, ready_next}
use Rattle.orders.proofs.Places.{Distinct, distinct_all, distinct_few, distinct_missing, times, times_here, times_there}
use Rattle.orders.proofs.Steps.{begun_distinct}
use Rattle.orders.specs.Faithful.{Begins, Conflict, Match}
use Rattle.orders.specs.Taking.{MayTake, Taken}
use Rattle.orders.specs.Theorems.{NextExact, TakenExact, WholeExact}

module _ (l r : List Instance) (place : ℕ → ℕ) (h : Match l r place) where
  match_distinct : Distinct (length l) place (length r)
  match_distinct j b = (h.in_range j b, new)
    where
      new : times place (place j) j ≡ 0
      new =
          elim (cases_eq (times place (place j) j) 0) [
            | inl e ↦ e
            | inr come ↦
                let (k, c, e) = times_there place (place j) j (omega arith) in
                absurd (omega (arith, h.one_to_one k j (omega arith) b e))
          ]

  -- each place has a record
  pub match_there : (q : ℕ) → q < length l → (j : ℕ) × (j < length r) × (place j ≡ q)
  match_there q b = times_there place q (length r) (rw h.same_length (distinct_all (length l) place (rw h.same_length at match_distinct) q b))

  -- an earlier place that conflicts has come
  match_comes : (j q : ℕ) (a b : Instance) → j < length r → q < place j → slice_get l q ≡ Some a → slice_get l (place j) ≡ Some b → Conflict a b → 1 ≤ times place q j
  match_comes j q a b inside before x y conflict =
      let (k, c, e) = match_there q (slice_get_within l q a x) in
      let first : k < j = h.keeps k j a b (sym (h.shows k c) ∙ (ap (slice_get l) e ∙ x)) (sym (h.shows j inside) ∙ y) conflict (omega arith) in
      rw (← e) (times_here place k j first)

  pub match_placed : Placed l r place
  match_placed = record { shown = h.shows; begun = λ j b. ready j b }
    where
      ready : (j : ℕ) → j < length r → ReadyAt l place (place j) j
      ready j b =
          let (y, there) = nth_there l (place j) (h.in_range j b) in
          record {
            inside = h.in_range j b;
            new = (match_distinct j b).1;
            after_writes = λ q c before w t. let (x, e) = nth_there l q (omega (arith, h.in_range j b)) in match_comes j q x y b before e there (conflict_writes l q (place j) c x y e there w t);
            after_reads = λ q c before w t. let (x, e) = nth_there l q (omega (arith, h.in_range j b)) in match_comes j q x y b before e there (conflict_reads l q (place j) c x y e there w t);
          }

module _ (l r : List Instance) (place : ℕ → ℕ) (h : Placed l r place) where
  -- two records do not share a place
  placed_apart : (i j : ℕ) → j < length r → i < j → place i ≡ place j → ⊥
  placed_apart i j b before e = omega (arith, (h.begun j b).new, ap (λ (q : ℕ). times place q j) e, times_here place i j before)

  placed_one : (i j : ℕ) → i < length r → j < length r → place i ≡ place j → i ≡ j
  placed_one i j a b e =
      elim (cases_order i j) [
        | inl same ↦ same
        | inr apart ↦ elim apart [
          | inl before ↦ absurd (placed_apart i j b before e)
          | inr after ↦ absurd (placed_apart j i a after (sym e))
        ]
      ]

  placed_keeps : (i j : ℕ) (a b : Instance) → slice_get r i ≡ Some a → slice_get r j ≡ Some b → Conflict a b → place i < place j → i < j
  placed_keeps i j a b x y conflict before =
      let p = slice_get_within r i a x in
      let q = slice_get_within r j b y in
      let (c, how) = conflict_at l (place i) (place j) a b (h.shown i p ∙ x) (h.shown j q ∙ y) conflict in
      let come : 1 ≤ times place (place i) j = elim how [
        | inl writes ↦ (h.begun j q).after_writes (place i) c before writes.0 writes.1
        | inr reads ↦ (h.begun j q).after_reads (place i) c before reads.0 reads.1
      ] in
      let (k, d, e) = times_there place (place i) j come in
      omega (arith, placed_one k i (omega arith) p e)

  -- records at their places, as many as the instances, are a faithful order
  pub placed_match : length r ≡ length l → Match l r place
  placed_match e = record {
    same_length = e;
    in_range = λ j b. (h.begun j b).inside;
    one_to_one = placed_one;
    shows = h.shown;
    keeps = placed_keeps;
  }

  placed_distinct : Distinct (length l) place (length r)
  placed_distinct = begun_distinct (length l) (writes_of l) (reads_of l) place (length r) h.begun

  pub placed_few : length r ≤ length l
  placed_few = distinct_few (length l) place (length r) placed_distinct

  -- while instances are missing, the first of them may come next
  pub placed_next : length r < length l → (p : ℕ) × (i : Instance) × (slice_get l p ≡ Some i) × ReadyAt l place p (length r)
  placed_next less =
      let (p, inside, new, all) = distinct_missing (length l) place (length r) placed_distinct less in
      let (i, e) = nth_there l p inside in
      (p, i, e, record { inside = inside; new = new; after_writes = λ q c b w t. all q b; after_reads = λ q c b w t. all q b })

-- so records at their places begin a faithful order
complete : (d : ℕ) (l r : List Instance) (place : ℕ → ℕ) → Placed l r place → length r + d ≡ length l → Begins l r
complete zero l r place h e = ([], (place, rw append-nil (placed_match l r place h (omega arith))))
complete (suc d) l r place h e =
    let (p, i, shown, ready) = placed_next l r place h (omega arith) in
    let (other, more) = placed_more l r place h i p shown ready in
    let (rest, whole) = complete d l (r ++ i ∷ []) other more (omega (arith, length-append r (i ∷ []))) in
    (i ∷ rest, rw append_assoc at whole)

pub placed_begins : (l r : List Instance) (place : ℕ → ℕ) → Placed l r place → Begins l r
placed_begins l r place h = complete (length l - length r) l r place h (omega (arith, placed_few l r place h))

pub begins_placed : (l r : List Instance) → Begins l r → (place : ℕ → ℕ) × Placed l r place
begins_placed l r (rest, (place, h)) = (place, placed_front l r rest place (match_placed l (r ++ rest) place h))

take_next : {X : Type 0} (r : List X) (n : ℕ) (i : X) → slice_get r n ≡ Some i → take (suc n) r ≡ take n r ++ i ∷ []
take_next [] n i e = absurd (cc)
take_next (x ∷ r) zero i e = let same : x ≡ i = cc in ap (λ y. y ∷ []) same
take_next (x ∷ r) (suc n) i e = ap (λ y. x ∷ y) (take_next r n i e)

-- records that were taken have their places
front_more : (l r : List Instance) → Taken l r → (n : ℕ) → n < length r → ((place : ℕ → ℕ) × Placed l (take n r) place) → (place : ℕ → ℕ) × Placed l (take (suc n) r) place
front_more l r t n b (place, h) =
    let (i, e) = nth_there r n b in
    let (p, shown, ready) = next_ready l (take n r) place h i (t n i e) in
    rw (take_next r n i e) (placed_more l (take n r) place h i p shown ready)

taken_front : (l r : List Instance) → Taken l r → (n : ℕ) → n ≤ length r → (place : ℕ → ℕ) × Placed l (take n r) place
taken_front l r t zero b = (λ j. j, placed_none l)
taken_front l r t (suc n) b = front_more l r t n b (taken_front l r t n (omega arith))

pub taken_placed : (l r : List Instance) → Taken l r → (place : ℕ → ℕ) × Placed l r place
taken_placed l r t = rw (take_all (length r) r (omega arith)) at (taken_front l r t (length r) (omega arith))

pub placed_taken : (l r : List Instance) (place : ℕ → ℕ) → Placed l r place → Taken l r
placed_taken l r place h n i e =
    let b = slice_get_within r n i e in
    let front = placed_front l (take n r) (drop n r) place (rw take-append-drop h) in
    ready_next l (take n r) place front i (place n) (h.shown n b ∙ e) (rw (length-take-le n r (omega arith)) (h.begun n b))

pub taken_exact : TakenExact
taken_exact l r = (
  λ begins. let (place, h) = begins_placed l r begins in placed_taken l r place h,
  λ taken. let (place, h) = taken_placed l r taken in placed_begins l r place h,
)

-- a record with which some others begin an order may be taken after them
pub begins_next : (l r : List Instance) (i : Instance) → Begins l (r ++ i ∷ []) → MayTake l r i
begins_next l r i begins =
    let (place, h) = begins_placed l (r ++ i ∷ []) begins in
    let last : length r < length (r ++ i ∷ []) = omega (arith, length-append r (i ∷ [])) in
    ready_next l r place (placed_front l r (i ∷ []) place h) i (place (length r)) (h.shown (length r) last ∙ nth_last r i (length r) refl) (h.begun (length r) last)

pub next_exact : NextExact
next_exact l r i taken = (
  λ begins. begins_next l r i begins,
  λ may.
      let (place, h) = taken_placed l r taken in
      let (p, shown, ready) = next_ready l r place h i may in
      let (other, more) = placed_more l r place h i p shown ready in
      placed_begins l (r ++ i ∷ []) other more,
)

pub whole_exact : WholeExact
whole_exact l r taken = (
  λ faithful. faithful.1.same_length,
  λ same. let (place, h) = taken_placed l r taken in (place, placed_match l r place h same),
)

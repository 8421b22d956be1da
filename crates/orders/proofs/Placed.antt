-- Records and the places in a list that they take, each after all earlier ones that it conflicts with.
use Rattle.std.proofs.Common.{◌≡◌, ℕ, ◌+◌, ◌<◌, ◌≤◌, cond, eqb, ◌⊎◌, List, [], ◌∷◌, ◌++◌, length, Some, sym, ap, ◌∙◌, inl, inr, arith, length-append}
use Rattle.std.proofs.lemmas.Option.{slice_get_within}
use Rattle.std.proofs.lemmas.Bool.{cases_eq, cond-false, cond-true, eq-eqb, ne_eqb}
use Rattle.std.specs.Option.{option_map}
use Rattle.std.specs.List.{All, slice_get}
use Rattle.records.specs.Instance.{Instance}
use Rattle.sources.proofs.Joined.{nth_left, nth_right}
use Rattle.sources.proofs.Totals.{total_same}
use Rattle.sources.proofs.Writers.{writer_exact}
use Rattle.sources.specs.Numbers.{total}
use Rattle.sources.specs.Questions.{earlier, readers, slots_of, writer}
use Rattle.orders.proofs.Cells.{all_counted, counted_all, earlier_is, readers_is, reads_is, reads_of, reads_same, slots_count, writes_of, writes_only, writes_own, writes_same}
use Rattle.orders.proofs.Steps.{Begun, Ready, ready_from, ready_reads, ready_same, ready_tally, ready_writes, slots_seen, tally_of, version_of}
use Rattle.orders.specs.Taking.{MayTake, TallyFull, tally, version}

-- the instance at p may come after the first n places
abbrev pub ReadyAt : List Instance → (ℕ → ℕ) → ℕ → ℕ → Type 0
ReadyAt l place p n = Ready (length l) (writes_of l) (reads_of l) place p n

-- each record shows the instance at its place, and could come when it came
pub record Placed (l r : List Instance) (place : ℕ → ℕ) : Type 0 where
  pub shown : (j : ℕ) → j < length r → slice_get l (place j) ≡ slice_get r j
  pub begun : Begun (length l) (writes_of l) (reads_of l) place (length r)

module _ (l r : List Instance) (place : ℕ → ℕ) (h : Placed l r place) where
  version_is : (c n : ℕ) → n ≤ length r → version_of (writes_of l) place c n ≡ earlier c n r
  version_is c n b =
      total_same (λ j. writes_of l c (place j)) (writes_of r c) n (λ j k. writes_same l r c (place j) j (h.shown j (omega arith)))
      ∙ sym (earlier_is c n r)

  counted_is : (c v : ℕ) → tally_of (writes_of l) (reads_of l) place c v (length r) ≡ readers c v r
  counted_is c v =
      total_same
      (λ j. cond (eqb (version_of (writes_of l) place c j) v) (reads_of l c (place j)) 0)
      (slots_seen (writes_of r) (reads_of r) c v)
      (length r)
      (λ j b.
      ap (λ (x : ℕ). cond (eqb x v) (reads_of l c (place j)) 0) (version_is c j (omega arith) ∙ earlier_is c j r)
      ∙ ap (λ (x : ℕ). cond (eqb (total (writes_of r c) j) v) x 0) (reads_same l r c (place j) j (h.shown j b)))
      ∙ sym (readers_is c v r)

  -- the tally equation, of records and of places
  tally_sides : (i : Instance) (p : ℕ) → slice_get l p ≡ Some i → version i.written r ≡ earlier i.written p l → (tally_of (writes_of l) (reads_of l) place i.written (total (writes_of l i.written) p) (length r) + reads_of l i.written p ≡ tally i.written r + slots_of i.written i) × (total (slots_seen (writes_of l) (reads_of l) i.written (total (writes_of l i.written) p)) (length l) ≡ readers i.written (version i.written r) l)
  tally_sides i p e same =
      let c = i.written in
      let v : version c r ≡ total (writes_of l c) p = same ∙ earlier_is c p l in
      (omega (arith, counted_is c (total (writes_of l c) p), ap (λ (x : ℕ). readers c x r) v, reads_is l c p i e), sym (readers_is c (total (writes_of l c) p) l) ∙ ap (λ (x : ℕ). readers c x l) (sym v))

  -- a record that may be taken next is an instance that may come next
  pub next_ready : (i : Instance) → MayTake l r i → (p : ℕ) × (slice_get l p ≡ Some i) × ReadyAt l place p (length r)
  next_ready i ((p, agree), full) =
      let c = i.written in
      let same : version c r ≡ earlier c p l = sym ((writer_exact l c (version c r) p).0 agree.named).1 in
      let (left, right) = tally_sides i p agree.shown same in
      (p, agree.shown, ready_from (length l) (writes_of l) (reads_of l) place (length r) h.begun p c (writes_own l p i agree.shown) (writes_only l p i agree.shown) (slice_get_within l p i agree.shown) (version_is c (length r) (omega arith) ∙ (same ∙ earlier_is c p l)) reads (left ∙ (full ∙ sym right)))
    where
      reads : (d : ℕ) → 1 ≤ reads_of l d p → version_of (writes_of l) place d (length r) ≡ total (writes_of l d) p
      reads d some =
          version_is d (length r) (omega arith)
          ∙ (all_counted (λ x. version x r ≡ earlier x p l) i.reads agree.current d (omega (arith, reads_is l d p i agree.shown, slots_count d i))
          ∙ earlier_is d p l)

  -- and the other way round
  pub ready_next : (i : Instance) (p : ℕ) → slice_get l p ≡ Some i → ReadyAt l place p (length r) → MayTake l r i
  ready_next i p e ready = ((p, record { named = named; shown = e; current = current }), full)
    where
      seen : (c : ℕ) → version_of (writes_of l) place c (length r) ≡ total (writes_of l c) p → version c r ≡ earlier c p l
      seen c same = sym (version_is c (length r) (omega arith)) ∙ (same ∙ sym (earlier_is c p l))

      own : version i.written r ≡ earlier i.written p l
      own = seen i.written (ready_writes (length l) (writes_of l) (reads_of l) place (length r) h.begun p i.written (writes_own l p i e) ready)

      named : writer i.written (version i.written r) l ≡ Some p
      named = (writer_exact l i.written (version i.written r) p).1 (ap (option_map (λ (j : Instance). j.written)) e, sym own)

      current : All (λ c. version c r ≡ earlier c p l) i.reads
      current =
          counted_all (λ c. version c r ≡ earlier c p l) i.reads
          (λ c some. seen c (ready_reads (length l) (writes_of l) (reads_of l) place (length r) h.begun p i.written (writes_own l p i e) ready c (omega (arith, reads_is l c p i e, slots_count c i))))

      full : TallyFull l r i
      full =
          let (left, right) = tally_sides i p e own in
          sym left ∙ (ready_tally (length l) (writes_of l) (reads_of l) place (length r) h.begun p i.written (writes_own l p i e) ready ∙ right)

-- the places with one more at n
more_at : (ℕ → ℕ) → ℕ → ℕ → ℕ → ℕ
more_at place n p j = cond (eqb j n) p (place j)

more_here : (place : ℕ → ℕ) (n p j : ℕ) → j ≡ n → more_at place n p j ≡ p
unfolding more_at
more_here place n p j e = cond-true (eqb j n) p (place j) (eq-eqb j n e)

more_before : (place : ℕ → ℕ) (n p j : ℕ) → j < n → place j ≡ more_at place n p j
unfolding more_at
more_before place n p j b = sym (cond-false (eqb j n) p (place j) (ne_eqb j n (λ e. omega arith)))

pub nth_last : {X : Type 0} (r : List X) (i : X) (j : ℕ) → j ≡ length r → slice_get (r ++ i ∷ []) j ≡ Some i
nth_last r i j e = ap (slice_get (r ++ i ∷ [])) (omega arith) ∙ nth_right r (i ∷ []) 0

-- one record more, of an instance that may come next
pub placed_more : (l r : List Instance) (place : ℕ → ℕ) → Placed l r place → (i : Instance) (p : ℕ) → slice_get l p ≡ Some i → ReadyAt l place p (length r) → (other : ℕ → ℕ) × Placed l (r ++ i ∷ []) other
placed_more l r place h i p e ready = (other, record { shown = shown; begun = begun })
  where
    other : ℕ → ℕ
    other = more_at place (length r) p

    split : (j : ℕ) → j < length (r ++ i ∷ []) → (j < length r) ⊎ (j ≡ length r)
    split j b =
        elim (cases_eq j (length r)) [
          | inl e ↦ inr e
          | inr ne ↦ inl (omega (arith, length-append r (i ∷ [])))
        ]

    shown : (j : ℕ) → j < length (r ++ i ∷ []) → slice_get l (other j) ≡ slice_get (r ++ i ∷ []) j
    shown j b =
        elim (split j b) [
          | inl before ↦ ap (slice_get l) (sym (more_before place (length r) p j before)) ∙ (h.shown j before ∙ sym (nth_left r (i ∷ []) j before))
          | inr last ↦ ap (slice_get l) (more_here place (length r) p j last) ∙ (e ∙ sym (nth_last r i j last))
        ]

    begun : (j : ℕ) → j < length (r ++ i ∷ []) → ReadyAt l other (other j) j
    begun j b =
        elim (split j b) [
          | inl before ↦ rw (← more_before place (length r) p j before) (ready_same (length l) (writes_of l) (reads_of l) place other (place j) j (λ k c. more_before place (length r) p k (omega arith)) (h.begun j before))
          | inr last ↦ rw (more_here place (length r) p j last, last) (ready_same (length l) (writes_of l) (reads_of l) place other p (length r) (λ k c. more_before place (length r) p k c) ready)
        ]

-- what holds of records holds of those that they begin with
pub placed_front : (l r more : List Instance) (place : ℕ → ℕ) → Placed l (r ++ more) place → Placed l r place
placed_front l r more place h = record {
  shown = λ j b. h.shown j (within j b) ∙ nth_left r more j b;
  begun = λ j b. h.begun j (within j b);
}
  where
    within : (j : ℕ) → j < length r → j < length (r ++ more)
    within j b = omega (arith, length-append r more)

pub placed_none : (l : List Instance) → Placed l [] (λ j. j)
placed_none l = record { shown = λ j b. absurd (omega arith); begun = λ j b. absurd (omega arith) }

-- The writer of a cell at a count, and the earlier writes.
use Rattle.std.proofs.Common.{◌≡◌, ℕ, zero, suc, ◌+◌, ◌-◌, ◌<◌, ◌≤◌, Bool, true, false, cond, if◌then◌else◌, ◌&&◌, eqb, ltb, List, length, is_some, Some, None, Option, unwrap_or, sym, refl, ap, ◌∙◌, inl, inr, arith}
use Rattle.std.proofs.lemmas.Option.{slice_get_past}
use Rattle.std.proofs.lemmas.Bool.{and_parts, cases_eq, cases_lt, cases_order, eq-eqb, eqb-true, false≢true, le-ltb, lt-ltb, ltb-false, ltb-true, ne_eqb}
use Rattle.std.specs.Option.{option_map, option_or}
use Rattle.std.specs.Bool.{then_some}
use Rattle.std.specs.List.{slice_get}
use Rattle.records.specs.Instance.{Instance}
use Rattle.sources.proofs.Searches.{least_passes}
use Rattle.sources.proofs.Totals.{total_grows, total_none, total_split}
use Rattle.sources.specs.Laws.{WriterCounted, WriterExact}
use Rattle.sources.specs.Numbers.{least, total}
use Rattle.sources.specs.Questions.{earlier, writer, writes, writes_at}

-- one where the instance at p writes c
abbrev pub wrote : ℕ → List Instance → ℕ → ℕ
wrote c l p = if writes_at c l p then 1 else 0

-- does the instance at p write c after exactly k earlier ones wrote c
abbrev pub is_writer : ℕ → ℕ → List Instance → ℕ → Bool
is_writer c k l p = writes_at c l p && eqb (earlier c p l) k

-- the earlier writes grow by one past each writer
pub earlier_next : (c p : ℕ) (l : List Instance) → earlier c (suc p) l ≡ earlier c p l + wrote c l p
unfolding earlier total
earlier_next c p l = refl

pub earlier_none : (c : ℕ) (l : List Instance) → earlier c 0 l ≡ 0
unfolding earlier total
earlier_none c l = refl

earlier_grows : (c p q : ℕ) (l : List Instance) → p ≤ q → earlier c p l ≤ earlier c q l
unfolding earlier
earlier_grows c p q l h = total_grows (wrote c l) p q h

-- past the end nothing is written
past_none : (c p : ℕ) (l : List Instance) → length l ≤ p → writes_at c l p ≡ false
past_none c p l h = rw (slice_get_past l p h) refl

pub earlier_past : (c p : ℕ) (l : List Instance) → length l ≤ p → earlier c p l ≡ writes c l
unfolding earlier
earlier_past c p l h =
    let sum : length l + (p - length l) ≡ p = omega arith in
    omega (
      arith,
      ap (total (wrote c l)) sum,
      total_split (wrote c l) (length l) (p - length l),
      total_none (λ k. wrote c l (length l + k)) (p - length l) (λ k b. rw (past_none c (length l + k) l (omega arith)) refl),
    )

pub earlier_writes : (c p : ℕ) (l : List Instance) → earlier c p l ≤ writes c l
earlier_writes c p l =
    elim (cases_lt p (length l)) [
      | inl h ↦ earlier_grows c p (length l) l (omega arith)
      | inr h ↦ omega (arith, earlier_past c p l h)
    ]

-- a writer is found below n exactly when more than k of the first n instances write c
found_step : (k n e : ℕ) (o : Option ℕ) (w : Bool) → is_some o ≡ ltb k e → is_some (option_or o (then_some (w && eqb e k) n)) ≡ ltb k (e + cond w 1 0)
found_step k n e (Some x) w h = sym (lt-ltb k (e + cond w 1 0) (omega (arith, ltb-true k e (sym h))))
found_step k n e None false h = sym (le-ltb k (e + 0) (omega (arith, ltb-false k e (sym h))))
found_step k n e None true h =
    elim (cases_eq e k) [
      | inl same ↦ rw (eq-eqb e k same) (sym (lt-ltb k (e + 1) (omega arith)))
      | inr ne ↦ rw (ne_eqb e k ne) (sym (le-ltb k (e + 1) (omega (arith, ltb-false k e (sym h)))))
    ]

writer_found : (c k n : ℕ) (l : List Instance) → is_some (least (is_writer c k l) n) ≡ ltb k (earlier c n l)
unfolding least
writer_found c k zero l = sym (le-ltb k (earlier c 0 l) (omega (arith, earlier_none c l)))
writer_found c k (suc n) l = found_step k n (earlier c n l) (least (is_writer c k l) n) (writes_at c l n) (writer_found c k n l) ∙ sym (ap (ltb k) (earlier_next c n l))

writer_some : (c k : ℕ) (l : List Instance) → is_some (writer c k l) ≡ ltb k (writes c l)
unfolding writer
writer_some c k l = writer_found c k (length l) l

-- an answer that is there, or is not
some_of : (o : Option ℕ) → is_some o ≡ true → (p : ℕ) × (o ≡ Some p)
some_of (Some x) e = (x, refl)
some_of None e = absurd (false≢true e)

pub writer_there : (c k : ℕ) (l : List Instance) → k < writes c l → (p : ℕ) × (writer c k l ≡ Some p)
writer_there c k l h = some_of (writer c k l) (writer_some c k l ∙ lt-ltb k (writes c l) h)

none_of : (o : Option ℕ) → is_some o ≡ false → o ≡ None
none_of (Some x) e = absurd (false≢true (sym e))
none_of None e = refl

pub writer_absent : (c k : ℕ) (l : List Instance) → writes c l ≤ k → writer c k l ≡ None
writer_absent c k l h = none_of (writer c k l) (writer_some c k l ∙ le-ltb k (writes c l) h)

-- the test of one instance, and what it says
part_writes : (c : ℕ) (o : Option Instance) → unwrap_or (option_map (λ (i : Instance). eqb i.written c) o) false ≡ true → option_map (λ (i : Instance). i.written) o ≡ Some c
part_writes c (Some i) e = ap Some (eqb-true i.written c e)
part_writes c None e = absurd (false≢true e)

writes_part : (c : ℕ) (o : Option Instance) → option_map (λ (i : Instance). i.written) o ≡ Some c → unwrap_or (option_map (λ (i : Instance). eqb i.written c) o) false ≡ true
writes_part c (Some i) e = eq-eqb i.written c (cc)
writes_part c None e = absurd (cc)

-- an earlier writer of c has fewer before it
writer_before : (c p q : ℕ) (l : List Instance) → writes_at c l q ≡ true → q < p → earlier c q l < earlier c p l
writer_before c p q l w h = omega (arith, earlier_next c q l, ap {B = ℕ} (λ (t : Bool). if t then 1 else 0) w, earlier_grows c (suc q) p l (omega arith))

same_writer : (c p q : ℕ) (l : List Instance) → writes_at c l p ≡ true → writes_at c l q ≡ true → earlier c p l ≡ earlier c q l → q ≡ p
same_writer c p q l v w e =
    elim (cases_order q p) [
      | inl same ↦ same
      | inr apart ↦ elim apart [
        | inl h ↦ absurd (omega (arith, writer_before c p q l w h))
        | inr h ↦ absurd (omega (arith, writer_before c q p l v h))
      ]
    ]

writer_says : (l : List Instance) (c k p : ℕ) → writer c k l ≡ Some p → (writes_at c l p ≡ true) × (earlier c p l ≡ k)
unfolding writer
writer_says l c k p e =
    let (t, _) = least_passes (is_writer c k l) (length l) p e in
    let (w, n) = and_parts (writes_at c l p) (eqb (earlier c p l) k) t in
    (w, eqb-true (earlier c p l) k n)

pub writer_from : (l : List Instance) (c k p : ℕ) → writes_at c l p ≡ true → earlier c p l ≡ k → writer c k l ≡ Some p
writer_from l c k p w n =
    let more : k < writes c l = omega (arith, writer_before c (suc p) p l w (omega arith), earlier_writes c (suc p) l) in
    let (q, e) = writer_there c k l more in
    let (v, m) = writer_says l c k q e in
    e ∙ ap Some (same_writer c p q l w v (n ∙ sym m))

pub writer_exact : WriterExact
writer_exact l c k p = (
  λ e. let (w, n) = writer_says l c k p e in (part_writes c (slice_get l p) w, n),
  λ h. writer_from l c k p (writes_part c (slice_get l p) h.0) h.1,
)

pub writer_counted : WriterCounted
writer_counted l c k = (
  λ h.
      let (w, n) = writer_says l c k h.0 h.1 in
      omega (arith, writer_before c (suc h.0) h.0 l w (omega arith), earlier_writes c (suc h.0) l),
  λ h. writer_there c k l h,
)

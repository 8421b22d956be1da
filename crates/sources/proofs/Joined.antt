-- The questions to one list after another.
use Rattle.std.proofs.Common.{◌≡◌, ℕ, zero, suc, ◌+◌, ◌-◌, ◌<◌, ◌≤◌, Bool, if◌then◌else◌, ◌&&◌, ◌==◌, eqb, List, [], ◌∷◌, ◌++◌, length, sym, refl, ap, ◌∙◌, inl, inr, arith, length-append}
use Rattle.std.proofs.lemmas.Bool.{cases_eq, eq-eqb, ne_eqb}
use Rattle.std.specs.Option.{option_map, option_or}
use Rattle.std.specs.List.{slice_get}
use Rattle.records.specs.Instance.{Instance}
use Rattle.sources.proofs.Readers.{version_slots}
use Rattle.sources.proofs.Searches.{least_same, least_split}
use Rattle.sources.proofs.Totals.{total_none, total_same, total_split}
use Rattle.sources.proofs.Writers.{is_writer, writer_absent, writer_there, wrote}
use Rattle.sources.specs.Numbers.{least, total}
use Rattle.sources.specs.Questions.{earlier, readers, slots_at, writer, writes, writes_at}

pub nth_left : {X : Type 0} (l m : List X) (p : ℕ) → p < length l → slice_get (l ++ m) p ≡ slice_get l p
nth_left [] m p h = absurd (omega arith)
nth_left (x ∷ l) m zero h = refl
nth_left (x ∷ l) m (suc p) h = nth_left l m p (omega arith)

-- a position past the first list
pub nth_after : {X : Type 0} (p : ℕ) (l m : List X) → length l ≤ p → slice_get (l ++ m) p ≡ slice_get m (p - length l)
nth_after p [] m h = ap (slice_get m) (omega arith)
nth_after zero (x ∷ l) m h = absurd (omega arith)
nth_after (suc p) (x ∷ l) m h = nth_after p l m (omega arith) ∙ ap (slice_get m) (omega arith)

pub nth_right : {X : Type 0} (l m : List X) (q : ℕ) → slice_get (l ++ m) (length l + q) ≡ slice_get m q
nth_right l m q = nth_after (length l + q) l m (omega arith) ∙ ap (slice_get m) (omega arith)

-- earlier writes, at a position of the first list and at one of the second
pub earlier_left : (c p : ℕ) (l m : List Instance) → p ≤ length l → earlier c p (l ++ m) ≡ earlier c p l
unfolding earlier
earlier_left c p l m h = total_same (wrote c (l ++ m)) (wrote c l) p (λ q b. rw (nth_left l m q (omega arith)) refl)

pub earlier_right : (c q : ℕ) (l m : List Instance) → earlier c (length l + q) (l ++ m) ≡ writes c l + earlier c q m
unfolding earlier
earlier_right c q l m =
    omega (
      arith,
      total_split (wrote c (l ++ m)) (length l) q,
      total_same (wrote c (l ++ m)) (wrote c l) (length l) (λ k b. rw (nth_left l m k b) refl),
      total_same (λ k. wrote c (l ++ m) (length l + k)) (wrote c m) q (λ k b. rw (nth_right l m k) refl),
    )

pub earlier_after : (c p : ℕ) (l m : List Instance) → length l ≤ p → earlier c p (l ++ m) ≡ writes c l + earlier c (p - length l) m
earlier_after c p l m h =
    let at : p ≡ length l + (p - length l) = omega arith in
    ap (λ (k : ℕ). earlier c k (l ++ m)) at ∙ earlier_right c (p - length l) l m

pub writes_append : (c : ℕ) (l m : List Instance) → writes c (l ++ m) ≡ writes c l + writes c m
writes_append c l m = rw (length-append l m) (earlier_right c (length m) l m)

-- a version of the second list, where the first has w writes
shifted : (w e v : ℕ) → w ≤ v → eqb (w + e) v ≡ eqb e (v - w)
shifted w e v h =
    elim (cases_eq (w + e) v) [
      | inl same ↦ eq-eqb (w + e) v same ∙ sym (eq-eqb e (v - w) (omega arith))
      | inr ne ↦ ne_eqb (w + e) v ne ∙ sym (ne_eqb e (v - w) (λ z. ne (omega arith)))
    ]

-- the read slots of the second list at a version of both
late_slots : ℕ → ℕ → ℕ → List Instance → ℕ → ℕ
late_slots w c v m q = if w + earlier c q m == v then slots_at c m q else 0

readers_both : (c v : ℕ) (l m : List Instance) → readers c v (l ++ m) ≡ readers c v l + total (late_slots (writes c l) c v m) (length m)
unfolding readers late_slots
readers_both c v l m =
    rw (length-append l m)
    (omega (
      arith,
      total_split (version_slots c v (l ++ m)) (length l) (length m),
      total_same (version_slots c v (l ++ m)) (version_slots c v l) (length l) (λ p b. rw (nth_left l m p b, earlier_left c p l m (omega arith)) refl),
      total_same (λ q. version_slots c v (l ++ m) (length l + q)) (late_slots (writes c l) c v m) (length m) (λ q b. rw (nth_right l m q, earlier_right c q l m) refl),
    ))

pub readers_left : (c v : ℕ) (l m : List Instance) → v < writes c l → readers c v (l ++ m) ≡ readers c v l
unfolding late_slots
readers_left c v l m h =
    omega (
      arith,
      readers_both c v l m,
      total_none (late_slots (writes c l) c v m) (length m) (λ q b. rw (ne_eqb (writes c l + earlier c q m) v (λ e. omega arith)) refl),
    )

pub readers_right : (c v : ℕ) (l m : List Instance) → writes c l ≤ v → readers c v (l ++ m) ≡ readers c v l + readers c (v - writes c l) m
unfolding readers late_slots
readers_right c v l m h =
    omega (
      arith,
      readers_both c v l m,
      total_same (late_slots (writes c l) c v m) (version_slots c (v - writes c l) m) (length m) (λ q b. rw (shifted (writes c l) (earlier c q m) v h) refl),
    )

-- the writer in the first list, or else in the second
late_writer : ℕ → ℕ → ℕ → List Instance → ℕ → Bool
late_writer w c k m q = writes_at c m q && w + earlier c q m == k

writer_both : (c k : ℕ) (l m : List Instance) → writer c k (l ++ m) ≡ option_or (writer c k l) (option_map (λ q. length l + q) (least (late_writer (writes c l) c k m) (length m)))
unfolding writer late_writer
writer_both c k l m =
    rw (
      length-append l m,
      least_split (is_writer c k (l ++ m)) (length l) (length m),
      least_same (is_writer c k (l ++ m)) (is_writer c k l) (length l) (λ p b. rw (nth_left l m p b, earlier_left c p l m (omega arith)) refl),
      least_same (λ q. is_writer c k (l ++ m) (length l + q)) (late_writer (writes c l) c k m) (length m) (λ q b. rw (nth_right l m q, earlier_right c q l m) refl),
    ) refl

pub writer_left : (c k : ℕ) (l m : List Instance) → k < writes c l → writer c k (l ++ m) ≡ writer c k l
writer_left c k l m h =
    let (p, e) = writer_there c k l h in
    writer_both c k l m ∙ rw e refl

pub writer_right : (c k : ℕ) (l m : List Instance) → writes c l ≤ k → writer c k (l ++ m) ≡ option_map (λ q. length l + q) (writer c (k - writes c l) m)
unfolding writer late_writer
writer_right c k l m h =
    let late = least_same (late_writer (writes c l) c k m) (is_writer c (k - writes c l) m) (length m) (λ q b. rw (shifted (writes c l) (earlier c q m) k h) refl) in
    writer_both c k l m ∙ rw (writer_absent c k l h, late) refl

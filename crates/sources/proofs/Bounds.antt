-- No answer of a sound source is large.
use Rattle.std.proofs.Common.{◌≡◌, ℕ, suc, ◌+◌, ◌*◌, ◌<◌, ◌≤◌, Bool, cond, eqb, List, length, get_or, Some, All, inl, inr, arith}
use Rattle.std.proofs.lemmas.Option.{slice_get_cases, slice_get-get_or}
use Rattle.std.proofs.lemmas.Bool.{cond_both}
use Rattle.std.proofs.lemmas.List.Sums.{count_by-le-length}
use Rattle.records.specs.Instance.{Instance}
use Rattle.sources.proofs.Readers.{readers_add_up, version_slots}
use Rattle.sources.proofs.Searches.{least_passes}
use Rattle.sources.proofs.Totals.{total_at_most, total_grows}
use Rattle.sources.proofs.Writers.{earlier_writes, is_writer, wrote}
use Rattle.sources.specs.Numbers.{total}
use Rattle.sources.specs.Questions.{earlier, read_slots, readers, slots_at, writer, writes, writes_at}
use Rattle.sources.specs.Sound.{Fitting, Sound}

slots_few : (c C p : ℕ) (l : List Instance) → All (Fitting C) l → slots_at c l p ≤ 5
slots_few c C p l h =
    elim (slice_get_cases l p).1 [
      | inl (i, within, _, _) ↦ rw (slice_get-get_or l p i within) (omega (arith, count_by-le-length (λ r. eqb r c) (get_or l p i).reads, (h p i within).recordable.few))
      | inr (_, none) ↦ rw none (omega arith)
    ]

if_few : (t : Bool) (n m : ℕ) → n ≤ m → cond t n 0 ≤ m
if_few t n m h = cond_both t n 0 (λ x. x ≤ m) (λ _. h) (λ _. omega arith)

pub readers_few : (c v C : ℕ) (l : List Instance) → Sound C l → readers c v l ≤ 5 * 65535
unfolding readers
readers_few c v C l s =
    omega (arith, s.short, total_at_most (version_slots c v l) 5 (length l) (λ p b. if_few (eqb (earlier c p l) v) (slots_at c l p) 5 (slots_few c C p l s.fitting)))

-- the readers of the first n versions are among the read slots
versions_within : (c n : ℕ) (l : List Instance) → total (λ v. readers c v l) n ≤ read_slots c l
versions_within c n l = omega (arith, total_grows (λ v. readers c v l) n (n + suc (writes c l)) (omega arith), readers_add_up l c (n + suc (writes c l)) (omega arith))

pub versions_few : (c n C : ℕ) (l : List Instance) → Sound C l → total (λ v. readers c v l) n ≤ 5 * 65535
unfolding read_slots
versions_few c n C l s = omega (arith, s.short, versions_within c n l, total_at_most (slots_at c l) 5 (length l) (λ p b. slots_few c C p l s.fitting))

writes_few : (c : ℕ) (l : List Instance) → writes c l ≤ length l
unfolding earlier
writes_few c l = omega (arith, total_at_most (wrote c l) 1 (length l) (λ p b. if_few (writes_at c l p) 1 1 (omega arith)))

pub earlier_few : (c p : ℕ) (l : List Instance) → earlier c p l ≤ length l
earlier_few c p l = omega (arith, writes_few c l, earlier_writes c p l)

-- a writer is one of the instances
pub writer_few : (c k p : ℕ) (l : List Instance) → writer c k l ≡ Some p → p < length l
unfolding writer
writer_few c k p l e = let (_, h) = least_passes (is_writer c k l) (length l) p e in h

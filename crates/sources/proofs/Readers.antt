-- The readers of a cell at its versions.
use Rattle.std.proofs.Common.{◌≡◌, ℕ, ◌<◌, cond, eqb, List, length, refl, ◌∙◌, arith}
use Rattle.std.proofs.lemmas.Bool.{ne_eqb}
use Rattle.records.specs.Instance.{Instance}
use Rattle.sources.proofs.Totals.{total_none, total_one, total_same, total_swap}
use Rattle.sources.proofs.Writers.{earlier_writes}
use Rattle.sources.specs.Laws.{ReadersAddUp}
use Rattle.sources.specs.Numbers.{total}
use Rattle.sources.specs.Questions.{earlier, read_slots, readers, slots_at, writes}

-- the read slots that hold c of the instance at p, if that has version v
abbrev pub version_slots : ℕ → ℕ → List Instance → ℕ → ℕ
version_slots c v l p = cond (eqb (earlier c p l) v) (slots_at c l p) 0

-- after the last write no version follows
pub readers_past : (c v : ℕ) (l : List Instance) → writes c l < v → readers c v l ≡ 0
unfolding readers
readers_past c v l h = total_none (version_slots c v l) (length l) (λ p b. rw (ne_eqb (earlier c p l) v (λ e. omega (arith, earlier_writes c p l))) refl)

pub readers_add_up : ReadersAddUp
unfolding readers read_slots
readers_add_up l c n h =
    total_swap (λ v. version_slots c v l) n (length l)
    ∙ total_same (λ p. total (λ v. version_slots c v l p) n) (slots_at c l) (length l)
    (λ p b. total_one (earlier c p l) (slots_at c l p) n (omega (arith, earlier_writes c p l)))

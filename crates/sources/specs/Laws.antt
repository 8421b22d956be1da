-- What ties the questions together, over every list.
use Rattle.std.specs.Prelude.{◌≡◌, ℕ, ◌<◌, ◌↔◌, List, Some}
use Rattle.records.specs.Instance.{Instance}
use Rattle.sources.specs.Numbers.{total}
use Rattle.sources.specs.Questions.{earlier, read_slots, readers, writer, writes, written_at}

-- the writer of c at count k is at p exactly when the instance at p writes c and k earlier ones do
abbrev pub WriterExact : Type 0
WriterExact = (l : List Instance) (c k p : ℕ) → (writer c k l ≡ Some p) ↔ ((written_at l p ≡ Some c) × (earlier c p l ≡ k))

-- there is a writer of c at count k exactly when k is below the number of writes of c
abbrev pub WriterCounted : Type 0
WriterCounted = (l : List Instance) (c k : ℕ) → ((p : ℕ) × (writer c k l ≡ Some p)) ↔ (k < writes c l)

-- the readers of c over all versions add up to the read slots that hold c
abbrev pub ReadersAddUp : Type 0
ReadersAddUp = (l : List Instance) (c n : ℕ) → writes c l < n → total (λ v. readers c v l) n ≡ read_slots c l

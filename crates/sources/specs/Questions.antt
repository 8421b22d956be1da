-- The questions to a list of instances. Positions count from 0.
use Rattle.std.specs.Prelude.{ℕ, zero, suc, Bool, false, ◌==◌, ◌&&◌, if◌then◌else◌, List, length, Some, count_by, Option}
use Rattle.std.specs.Option.{option_map, option_flatten, unwrap_or}
use Rattle.std.specs.List.{slice_get}
use Rattle.records.specs.Instance.{Instance}
use Rattle.sources.specs.Numbers.{total, least}

-- the cell in a slot of an instance: slot 0 is the written cell, the reads follow from slot 1
abbrev pub slot_of : ℕ → Instance → Option ℕ
slot_of zero i = Some i.written
slot_of (suc k) i = slice_get i.reads k

-- the operator of the instance at p, absent where there is none
abbrev pub operator_at : List Instance → ℕ → Option ℕ
operator_at l p = option_map (λ (i : Instance). i.operator) (slice_get l p)

-- the cell that the instance at p writes
abbrev pub written_at : List Instance → ℕ → Option ℕ
written_at l p = option_map (λ (i : Instance). i.written) (slice_get l p)

-- how many cells the instance at p reads
abbrev pub reads_at : List Instance → ℕ → Option ℕ
reads_at l p = option_map (λ (i : Instance). length i.reads) (slice_get l p)

-- the cell in a slot of the instance at p, absent where there is no such position or slot
abbrev pub cell_at : List Instance → ℕ → ℕ → Option ℕ
cell_at l p slot = option_flatten (option_map (slot_of slot) (slice_get l p))

-- does the instance at p write c
abbrev pub writes_at : ℕ → List Instance → ℕ → Bool
writes_at c l p = unwrap_or (option_map (λ (i : Instance). i.written == c) (slice_get l p)) false

-- how many read slots of an instance hold c
abbrev pub slots_of : ℕ → Instance → ℕ
slots_of c i = count_by (λ r. r == c) i.reads

-- how many read slots of the instance at p hold c
abbrev pub slots_at : ℕ → List Instance → ℕ → ℕ
slots_at c l p = unwrap_or (option_map (slots_of c) (slice_get l p)) 0

-- how many of the first p instances write c
unfoldable pub earlier : ℕ → ℕ → List Instance → ℕ
earlier c p l = total (λ q. if writes_at c l q then 1 else 0) p

-- how many writes of its cell come before the instance at p
abbrev pub count_at : List Instance → ℕ → Option ℕ
count_at l p = option_map (λ (i : Instance). earlier i.written p l) (slice_get l p)

-- how many instances write c
abbrev pub writes : ℕ → List Instance → ℕ
writes c l = earlier c (length l) l

-- the position of the instance that writes c after exactly k earlier ones wrote c
unfoldable pub writer : ℕ → ℕ → List Instance → Option ℕ
writer c k l = least (λ p. writes_at c l p && earlier c p l == k) (length l)

-- how many read slots hold c, over the instances before which exactly v instances write c
unfoldable pub readers : ℕ → ℕ → List Instance → ℕ
readers c v l = total (λ p. if earlier c p l == v then slots_at c l p else 0) (length l)

-- how many read slots hold c
unfoldable pub read_slots : ℕ → List Instance → ℕ
read_slots c l = total (slots_at c l) (length l)

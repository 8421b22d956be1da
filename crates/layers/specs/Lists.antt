-- The lists of the layers.
use Rattle.std.specs.Prelude.{ℕ, zero, suc, ◌+◌, ◌/◌, min, if◌then◌else◌, List, [], ◌++◌, length, nat_le, nat_lt}
use Rattle.records.specs.Instance.{Instance}
use Rattle.sources.specs.Questions.{readers}

-- the list, n times over
unfoldable pub copies : ℕ → List Instance → List Instance
copies zero l = []
copies (suc n) l = l ++ copies n l

-- how often a list of this length is repeated: n times, or as often as 65,535 instances allow
abbrev pub turns : ℕ → ℕ → ℕ
turns n zero = 0
turns n (suc m) = min n (65535 / suc m)

-- the list of Rounds of n
abbrev pub repeated : ℕ → List Instance → List Instance
repeated n l = copies (turns n (length l)) l

-- the readers of c at version v of the list, in turn q of r; none where there is no such turn
abbrev pub in_turn : ℕ → ℕ → ℕ → ℕ → List Instance → ℕ
in_turn r q c v l = if nat_lt q r then readers c v l else 0

-- the list of After: one list and then another; the first alone, where both together exceed 65,535 instances
abbrev pub joined : List Instance → List Instance → List Instance
joined l m = if nat_le (length l + length m) 65535 then l ++ m else l

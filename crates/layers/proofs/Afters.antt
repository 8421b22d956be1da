-- The questions to After.
use Rattle.std.proofs.Common.{◌≡◌, ◌+◌, ◌≤◌, ◌↔◌, Bool, true, false, if◌then◌else◌, IsTrue, List, ◌++◌, length, nat_le, refl}
use Rattle.std.proofs.lemmas.Bool.{cond_both, false_from_ne_true, false≢true, le-leb, leb-true}
use Rattle.records.specs.Instance.{Instance}
use Rattle.layers.specs.Lists.{joined}

-- what the test of the lengths says
pub tested : {b : Bool} (l m : List Instance) → (IsTrue b ↔ (length l + length m ≤ 65535)) → joined l m ≡ if b then l ++ m else l
tested {b = true} l m h = rw (le-leb (length l + length m) 65535 (h.0 refl)) refl
tested {b = false} l m h = rw (false_from_ne_true (nat_le (length l + length m) 65535) (λ e. false≢true (h.1 (leb-true (length l + length m) 65535 e)))) refl

-- a question whose answer the first list gives, with or without the second
pub either : (P : List Instance → Type 0) (l m : List Instance) → P (l ++ m) → P l → P (joined l m)
either P l m both alone = cond_both (nat_le (length l + length m) 65535) (l ++ m) l P (λ _. both) (λ _. alone)

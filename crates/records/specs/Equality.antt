-- Equality of instances as a test.
use Rattle.std.specs.Prelude.{◌≡◌, ◌↔◌, Bool, IsTrue, ◌==◌}
use Rattle.std.specs.Cmp.Lexicographic.{pointwise}
use Rattle.std.specs.Ordering.{eq_of_both, on}
use Rattle.records.specs.Instance.{Instance}

-- are two instances the same: the operators, the written cells, and the read cells in their order
abbrev pub same_instance : Instance → Instance → Bool
same_instance = eq_of_both (on (λ i. i.operator) ◌==◌) (eq_of_both (on (λ i. i.written) ◌==◌) (on (λ i. i.reads) (pointwise ◌==◌)))

-- the test is true exactly of instances that are equal
abbrev pub SameExact : Type 0
SameExact = (i j : Instance) → IsTrue (same_instance i j) ↔ (i ≡ j)

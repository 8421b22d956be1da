-- Instances by their parts, and what a record's type says of its instance.
use Rattle.std.proofs.Common.{◌≡◌, arith}
use Rattle.std.proofs.lemmas.List.{length-take}
use Rattle.records.specs.Instance.{Instance, Recordable}
use Rattle.records.specs.Meaning.{instance}
use Rattle.records.specs.declared.record.Record.{Record}

pub same_parts : (x y : Instance) → x.operator ≡ y.operator → x.written ≡ y.written → x.reads ≡ y.reads → x ≡ y
same_parts x y p q r = λ i. record { operator = p i; written = q i; reads = r i }

-- what a record means can be recorded
pub recordable : (r : Record) → Recordable (instance r)
recordable r = record { small = r.operator_fits; few = omega (arith, length-take r.row.count r.row.reads, r.reads_fit) }

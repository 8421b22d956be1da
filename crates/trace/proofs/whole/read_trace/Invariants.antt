use Rattle.std.proofs.Common.{◌≡◌, ◌-◌, map, length, vec_items}
use Rattle.records.specs.Meaning.{instance}
use Rattle.trace.proofs.Walks.{ahead, rest_of}
use Rattle.trace.specs.Reader.{cursor}
use Rattle.trace.specs.Traces.{whole}
use Rattle.trace.proofs.whole.read_trace.Given as goal

-- the records so far, and then what the reader still finds, are what the trace gives
abbrev pub invariant-loop-records : goal.invariant-loop-records
invariant-loop-records l = ((cursor l.reader).bytes ≡ l.bytes) × (ahead (map instance (vec_items l.records)) (rest_of (cursor l.reader)) ≡ whole l.bytes)

abbrev pub decreases-loop-records : goal.decreases-loop-records
decreases-loop-records l = length (cursor l.reader).bytes - (cursor l.reader).place

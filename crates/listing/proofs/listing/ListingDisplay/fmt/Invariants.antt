use Rattle.std.proofs.Common.{◌≡◌, ℕ, ◌-◌, ◌≤◌, List, ◌++◌, length}
use Rattle.std.specs.Fmt.{IsPlainFormatter, HasWritten}
use Rattle.trace.proofs.Walks.{rest_of}
use Rattle.trace.specs.Reader.{cursor}
use Rattle.trace.specs.Traces.{whole}
use Rattle.listing.proofs.Texts.{told}
use Rattle.listing.proofs.listing.ListingDisplay.fmt.Given as goal

-- what was written, and then the text of what the reader still finds, is the text of the trace
abbrev pub invariant-loop-record : goal.invariant-loop-record
invariant-loop-record g l =
    ((cursor l.reader).bytes ≡ l.self.bytes.now)
    × (l.count ≤ (cursor l.reader).place)
    × (IsPlainFormatter l.initial.f → (bs : List ℕ) × HasWritten g.W.Write.write_str_gives l.initial.f bs l.f × (bs ++ told l.count (rest_of (cursor l.reader)) ≡ told 0 (whole l.self.bytes.now)))

abbrev pub decreases-loop-record : goal.decreases-loop-record
decreases-loop-record g l = length (cursor l.reader).bytes - (cursor l.reader).place

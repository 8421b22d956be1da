use Rattle.std.proofs.Common.{◌≡◌, take}
use Rattle.trace.specs.Reading.{cells_in}
use Rattle.trace.proofs.reading.read_cells.Given as goal

abbrev pub invariant-loop-k : goal.invariant-loop-k
invariant-loop-k l = take l.k l.cells ≡ cells_in l.k l.bytes

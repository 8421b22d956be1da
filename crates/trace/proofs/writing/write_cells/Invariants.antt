use Rattle.std.proofs.Common.{◌≡◌, take}
use Rattle.trace.specs.Writing.{cell_bytes, over}
use Rattle.trace.proofs.writing.write_cells.Given as goal

-- the cells before the index have been written
abbrev pub invariant-loop-k : goal.invariant-loop-k
invariant-loop-k l = l.out ≡ over (cell_bytes (take l.k l.cells)) l.initial.out

use Rattle.std.proofs.Common.{arith}
use Rattle.trace.proofs.Puts.{cell_put}
use Rattle.trace.proofs.writing.write_cells.Goals as goal

pub loop-k-preserved : goal.loop-k-preserved
loop-k-preserved c = grind (arith, cell_put)

use Rattle.std.proofs.Common.{arith}
use Rattle.std.proofs.lemmas.List.{take_rest}
use Rattle.trace.proofs.Cells.{cells_more}
use Rattle.trace.proofs.reading.read_cells.Goals as goal

pub loop-k-preserved : goal.loop-k-preserved
loop-k-preserved c = grind (arith, cells_more, take_rest)

use Rattle.std.proofs.Common.{refl, ap}
use Rattle.std.proofs.Output.{has_written_of_eq, has_written_append}
use Rattle.std.proofs.lemmas.List.{take_all}
use Rattle.records.proofs.Texts.{cells_more}
use Rattle.records.specs.Text.{cells_text}
use Rattle.records.proofs.record.text.SpacedDisplay.fmt.Goals as goal

pub loop-cell-preserved : goal.loop-cell-preserved
loop-cell-preserved g c =
    λ p. let before = c.loop-cell.invariant p in
    has_written_of_eq g.W.Write.write_str_gives _ _ _ _ (cells_more c.args.self.now.cells.now c.loop-cell.cell-index c.loop-cell-test.true)
    (has_written_append g.W.Write.write_str_gives _ _ _ _ _ before (c.in_ok-write.ensures.writes before.plain refl))

pub returns-clause-writes : goal.returns-clause-writes
returns-clause-writes g c =
    λ p _. has_written_of_eq g.W.Write.write_str_gives _ _ _ _ (ap cells_text (take_all c.loop-cell.cell-index c.args.self.now.cells.now c.loop-cell-test.false))
    (c.loop-cell.invariant p)

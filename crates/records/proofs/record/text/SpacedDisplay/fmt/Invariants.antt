-- The cells before the index have been written.
use Rattle.std.proofs.Common.{take}
use Rattle.std.specs.Fmt.{IsPlainFormatter, HasWritten}
use Rattle.records.specs.Text.{cells_text}
use Rattle.records.proofs.record.text.SpacedDisplay.fmt.Given as goal

abbrev pub invariant-loop-cell : goal.invariant-loop-cell
invariant-loop-cell g l =
    IsPlainFormatter l.initial.f → HasWritten g.W.Write.write_str_gives l.initial.f (cells_text (take l.cell-index l.self.cells.now)) l.f

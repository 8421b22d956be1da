use Rattle.std.proofs.Common.{eqb, arith}
use Rattle.std.proofs.lemmas.List.Elements.{Decides-contains, contains_decides}
use Rattle.records.specs.Meaning.{instance}
use Rattle.orders.proofs.Swaps.{decides_behind}
use Rattle.orders.proofs.neighbours.touches.Goals as goal
use Rattle.std.proofs.lemmas.Bool.Decides.{Decides-eqb}

pub returns-else-written-cell : goal.returns-else-written-cell
returns-else-written-cell c =
    let i = instance c.args.record.now in
    decides_behind i.written c.args.cell i.reads c.contains.result (λ e. omega arith)
    (rw c.reads.ensures.cells at (Decides-contains c.reads.result.now c.args.cell c.contains.result (contains_decides eqb Decides-eqb c.reads.result.now c.args.cell c.contains.result c.contains.ensures.cases)))

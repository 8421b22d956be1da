use Rattle.std.proofs.Common.{eqb, if◌then◌else◌, take, sym, ◌∙◌, arith, length-take, rules, tests}
use Rattle.std.proofs.lemmas.Iterator.{YieldsList-from_map, YieldsList-from_slice, YieldsList-from_take}
use Rattle.std.proofs.lemmas.Iterator.Consumers.{YieldsList-at, fits_by_from_yields_list, sum_by_from_yields_List}
use Rattle.std.proofs.lemmas.List.Sums.{count_by-le-length}
use Rattle.records.specs.declared.row.Row.{Row}
use Rattle.written.proofs.Rows.{earlier_counted}
use Rattle.written.proofs.list.questions.WrittenListSource.earlier.Goals as goal

pub sum-requires-clause-fits : goal.sum-requires-clause-fits
sum-requires-clause-fits c =
    let rows = c.args.self.now.rows.now in
    let f = λ (row : Row). if eqb row.written c.args.cell then 1 else 0 in
    fits_by_from_yields_list f (take c.args.position rows) c.map.result _
    (YieldsList-from_map _ f (YieldsList-at c.map.ensures.source (YieldsList-from_take c.args.position (YieldsList-at c.take.ensures.source (YieldsList-from_slice rows c.iter.ensures.rest)) (omega (arith, c.take.ensures.count)))) c.map.ensures.closure (λ x r q k. search (rules, tests)))
    (omega (arith, count_by-le-length (λ (row : Row). eqb row.written c.args.cell) (take c.args.position rows), length-take c.args.position rows, c.args.self.now.few_rows))

pub returns : goal.returns
returns c =
    let rows = c.args.self.now.rows.now in
    let f = λ (row : Row). if eqb row.written c.args.cell then 1 else 0 in
    sum_by_from_yields_List f (take c.args.position rows) c.map.result c.sum.result c.sum.ensures.ran
    (YieldsList-from_map _ f (YieldsList-at c.map.ensures.source (YieldsList-from_take c.args.position (YieldsList-at c.take.ensures.source (YieldsList-from_slice rows c.iter.ensures.rest)) (omega (arith, c.take.ensures.count)))) c.map.ensures.closure (λ x r q k. search (rules, tests)))
    ∙ sym (earlier_counted c.args.cell c.args.position rows)

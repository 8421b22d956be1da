use Rattle.std.proofs.Common.{◌≡◌, ◌∙◌, ℕ, eqb, if◌then◌else◌, length, take, arith, length-take, rules, tests}
use Rattle.std.proofs.lemmas.Iterator.{YieldsList-from_map, YieldsList-from_slice, YieldsList-from_take}
use Rattle.std.proofs.lemmas.Iterator.Consumers.{YieldsList-at, fits_by_from_yields_list, sum_by_from_yields_List}
use Rattle.std.proofs.lemmas.List.Sums.{count_by-le-length}
use Rattle.written.proofs.list.questions.count_slots.Goals as goal

pub sum-requires-clause-fits : goal.sum-requires-clause-fits
sum-requires-clause-fits c =
    let reads = c.args.row.now.reads in
    let five : length reads ≡ 5 = search rules in
    let f = λ (read : ℕ). if eqb read c.args.cell then 1 else 0 in
    fits_by_from_yields_list f (take c.args.row.now.count reads) c.map.result _
    (YieldsList-from_map _ f (YieldsList-at c.map.ensures.source (YieldsList-from_take c.args.row.now.count (YieldsList-at c.take.ensures.source (YieldsList-from_slice reads c.iter.ensures.rest)) (c.take.ensures.count ∙ c.from.ensures))) c.map.ensures.closure (λ x r q k. search (rules, tests)))
    (omega (arith, count_by-le-length (λ read. eqb read c.args.cell) (take c.args.row.now.count reads), length-take c.args.row.now.count reads))

pub returns : goal.returns
returns c =
    let reads = c.args.row.now.reads in
    let five : length reads ≡ 5 = search rules in
    let f = λ (read : ℕ). if eqb read c.args.cell then 1 else 0 in
    let held = sum_by_from_yields_List f (take c.args.row.now.count reads) c.map.result c.sum.result c.sum.ensures.ran
    (YieldsList-from_map _ f (YieldsList-at c.map.ensures.source (YieldsList-from_take c.args.row.now.count (YieldsList-at c.take.ensures.source (YieldsList-from_slice reads c.iter.ensures.rest)) (c.take.ensures.count ∙ c.from.ensures))) c.map.ensures.closure (λ x r q k. search (rules, tests))) in
    record {
      held = held;
      few = omega (arith, held, count_by-le-length (λ read. eqb read c.args.cell) (take c.args.row.now.count reads), length-take c.args.row.now.count reads);
    }

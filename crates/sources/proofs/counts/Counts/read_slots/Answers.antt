use Rattle.std.proofs.Common.{ℕ, ◌+◌, ◌∙◌, arith, rules, tests}
use Rattle.std.proofs.lemmas.Iterator.{YieldsList-from_map}
use Rattle.std.proofs.lemmas.Iterator.Consumers.{YieldsList-at, fits_from_yields_list, sum_from_yields_List}
use Rattle.sources.proofs.Bounds.{versions_few}
use Rattle.sources.proofs.Ranges.{sum_of_range, yields_through}
use Rattle.sources.proofs.Readers.{readers_add_up}
use Rattle.sources.specs.Questions.{readers}
use Rattle.sources.proofs.counts.Counts.read_slots.Goals as goal

pub sum-requires-clause-fits : goal.sum-requires-clause-fits
sum-requires-clause-fits g c =
    let l = g.Self.Source.list c.args.self.now in
    let f = λ (v : ℕ). readers c.args.cell v l in
    let w = c.writes.result in
    fits_from_yields_list c.map.result _
    (YieldsList-from_map _ f (YieldsList-at c.map.ensures.source (yields_through w c.new.ensures.start c.new.ensures.end c.new.ensures.exhausted)) c.map.ensures.closure (λ x r q k. search (rules, tests)))
    (omega (arith, sum_of_range f (w + 1), versions_few c.args.cell (w + 1) _ l (g.Self.Source.sound c.args.self.now)))

pub returns-clause-answer : goal.returns-clause-answer
returns-clause-answer g c =
    let l = g.Self.Source.list c.args.self.now in
    let f = λ (v : ℕ). readers c.args.cell v l in
    let w = c.writes.result in
    sum_from_yields_List c.map.result c.sum.result c.sum.ensures.ran
    (YieldsList-from_map _ f (YieldsList-at c.map.ensures.source (yields_through w c.new.ensures.start c.new.ensures.end c.new.ensures.exhausted)) c.map.ensures.closure (λ x r q k. search (rules, tests)))
    ∙ (sum_of_range f (w + 1) ∙ readers_add_up l c.args.cell (w + 1) (omega (arith, c.writes.ensures.answer)))

pub returns-clause-law : goal.returns-clause-law
returns-clause-law g c = readers_add_up

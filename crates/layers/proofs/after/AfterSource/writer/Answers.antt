use Rattle.std.proofs.Common.{◌≡◌, ◌+◌, ◌-◌, ◌≤◌, refl, arith, rules}
use Rattle.std.specs.Option.{option_map}
use Rattle.std.proofs.iter.Serving.{serving}
use Rattle.sources.proofs.Bounds.{writer_few}
use Rattle.sources.proofs.Joined.{writer_left, writer_right}
use Rattle.sources.proofs.Writers.{writer_absent}
use Rattle.sources.specs.Questions.{writer}
use Rattle.layers.proofs.Afters.{either, tested}
use Rattle.layers.proofs.after.AfterSource.writer.Goals as goal

pub returns-then-count-writes : goal.returns-then-count-writes
returns-then-count-writes g c =
    let l = g.A.Source.list c.args.self.now.first in
    let m = g.B.Source.list c.args.self.now.second in
    let k = c.args.count in
    cc (either (λ j. writer c.args.cell k j ≡ writer c.args.cell k l) l m (writer_left c.args.cell k l m (omega (arith, c.writes-writes.ensures.answer))) refl)

pub returns-then-not-fits : goal.returns-then-not-fits
returns-then-not-fits g c =
    let l = g.A.Source.list c.args.self.now.first in
    let m = g.B.Source.list c.args.self.now.second in
    cc (tested l m c.if-not-fits.ensures, writer_absent c.args.cell c.args.count l (omega (arith, c.writes-writes.ensures.answer)))

pub map-requires : goal.map-requires
map-requires g c x e =
    let m = g.B.Source.list c.args.self.now.second in
    let few = writer_few c.args.cell (c.args.count - c.writes-writes.result) x m (cc) in
    let fits = c.if-not-fits.ensures.0 refl in
    let bound : c.length-length.result + x ≤ 65535 = omega (arith, few, fits, c.length-length.ensures) in
    grind (serving, bound)

pub returns : goal.returns
returns g c =
    let l = g.A.Source.list c.args.self.now.first in
    let m = g.B.Source.list c.args.self.now.second in
    let moved : c.map.result ≡ option_map (λ q. c.length-length.result + q) c.writer-2.result = search rules in
    rw (tested l m c.if-not-fits.ensures, writer_right c.args.cell c.args.count l m (omega (arith, c.writes-writes.ensures.answer)), ← c.writes-writes.ensures.answer, ← c.writer-2.ensures, ← c.length-length.ensures) moved

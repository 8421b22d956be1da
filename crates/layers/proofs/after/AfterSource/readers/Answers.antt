use Rattle.std.proofs.Common.{◌≡◌, ◌-◌, refl, arith}
use Rattle.sources.proofs.Bounds.{readers_few}
use Rattle.sources.proofs.Joined.{readers_left, readers_right}
use Rattle.sources.specs.Questions.{readers}
use Rattle.layers.proofs.Afters.{either, tested}
use Rattle.layers.proofs.after.AfterSource.readers.Goals as goal
use Rattle.layers.proofs.after.AfterSource.readers.Goals.{then-version-writes-via-then-version-writes, then-version-writes-via-else-version-writes+then-not-fits}

pub returns-then-version-writes : goal.returns-then-version-writes
returns-then-version-writes g c =
    let l = g.A.Source.list c.args.self.now.first in
    let m = g.B.Source.list c.args.self.now.second in
    let v = c.args.version in
    elim c.then-version-writes.branch [
      | then-version-writes-via-then-version-writes w ↦ cc (either (λ j. readers c.args.cell v j ≡ readers c.args.cell v l) l m (readers_left c.args.cell v l m (omega (arith, c.writes-writes.ensures.answer))) refl)
      | then-version-writes-via-else-version-writes+then-not-fits w ↦ cc (tested l m w.if-not-fits.ensures)
    ]

pub overflow_add-result : goal.overflow_add-result
overflow_add-result g c =
    let a = c.args.self.now.first in
    let b = c.args.self.now.second in
    omega (arith, readers_few c.args.cell c.args.version _ _ (g.A.Source.sound a), readers_few c.args.cell (c.args.version - c.writes-writes.result) _ _ (g.B.Source.sound b))

pub returns : goal.returns
returns g c =
    let l = g.A.Source.list c.args.self.now.first in
    let m = g.B.Source.list c.args.self.now.second in
    cc (tested l m c.if-not-fits.ensures, readers_right c.args.cell c.args.version l m (omega (arith, c.writes-writes.ensures.answer)))

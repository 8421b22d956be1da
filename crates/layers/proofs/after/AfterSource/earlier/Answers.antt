use Rattle.std.proofs.Common.{◌≡◌, ◌-◌, refl, arith}
use Rattle.sources.proofs.Bounds.{earlier_few}
use Rattle.sources.proofs.Joined.{earlier_after, earlier_left}
use Rattle.sources.proofs.Writers.{earlier_past}
use Rattle.sources.specs.Questions.{earlier}
use Rattle.layers.proofs.Afters.{either, tested}
use Rattle.layers.proofs.after.AfterSource.earlier.Goals as goal
use Rattle.layers.proofs.after.AfterSource.earlier.Goals.{then-position-length-via-then-position-length, then-position-length-via-else-position-length+then-not-fits}

pub returns-then-position-length : goal.returns-then-position-length
returns-then-position-length g c =
    let l = g.A.Source.list c.args.self.now.first in
    let m = g.B.Source.list c.args.self.now.second in
    let p = c.args.position in
    elim c.then-position-length.branch [
      | then-position-length-via-then-position-length w ↦ cc (either (λ j. earlier c.args.cell p j ≡ earlier c.args.cell p l) l m (earlier_left c.args.cell p l m (omega arith)) refl)
      | then-position-length-via-else-position-length+then-not-fits w ↦ cc (tested l m w.if-not-fits.ensures)
    ]

pub overflow_add-result : goal.overflow_add-result
overflow_add-result g c =
    let l = g.A.Source.list c.args.self.now.first in
    let m = g.B.Source.list c.args.self.now.second in
    omega (arith, c.if-not-fits.ensures.0 refl, earlier_few c.args.cell c.args.position l, earlier_few c.args.cell (c.args.position - c.length-length.result) m)

pub returns : goal.returns
returns g c =
    let l = g.A.Source.list c.args.self.now.first in
    let m = g.B.Source.list c.args.self.now.second in
    cc (tested l m c.if-not-fits.ensures, earlier_after c.args.cell c.args.position l m (omega arith), earlier_past c.args.cell c.args.position l (omega arith))

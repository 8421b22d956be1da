use Rattle.std.proofs.Common.{◌≡◌, ◌+◌, ◌*◌, ◌/◌, ◌≤◌, min, length, arith}
use Rattle.sources.proofs.Bounds.{earlier_few}
use Rattle.sources.specs.Questions.{earlier}
use Rattle.layers.proofs.Repeated.{earlier_bound, earlier_turn, none_below}
use Rattle.layers.specs.Lists.{repeated, turns}
use Rattle.layers.specs.Sound.{repeated_sound}
use Rattle.layers.proofs.rounds.RoundsSource.earlier.Given.{Over}
use Rattle.layers.proofs.rounds.RoundsSource.earlier.Goals as goal

pub returns-then-length-eq0 : goal.returns-then-length-eq0
returns-then-length-eq0 g c =
    let l = g.S.Source.list c.args.self.now.below in
    omega (arith, earlier_few c.args.cell c.args.position (repeated c.args.self.now.times l), none_below (turns c.args.self.now.times (length l)) l (cc))

-- the sum, as an answer over the whole list
sum : (g : Over) (c : goal.After-earlier-rest g) → c.min-position.result / c.length-length.result * c.writes-writes.result + c.earlier-rest.result ≡ earlier c.args.cell c.args.position (repeated c.args.self.now.times (g.S.Source.list c.args.self.now.below))
sum g c =
    let l = g.S.Source.list c.args.self.now.below in
    let all = repeated c.args.self.now.times l in
    cc (earlier_turn c.args.cell (turns c.args.self.now.times (length l)) (min c.args.position (length all)) l (omega arith) (omega arith), earlier_bound c.args.cell c.args.position all)

small : (g : Over) (c : goal.After-earlier-rest g) → c.min-position.result / c.length-length.result * c.writes-writes.result + c.earlier-rest.result ≤ 65535
small g c =
    let v = c.args.self.now in
    omega (arith, sum g c, (repeated_sound v.times (g.S.Source.sound v.below)).short, earlier_few c.args.cell c.args.position (repeated v.times (g.S.Source.list v.below)))

pub overflow_mul-result : goal.overflow_mul-result
overflow_mul-result g c = omega (arith, small g c)

pub overflow_add-result : goal.overflow_add-result
overflow_add-result g c = omega (arith, small g c)

pub returns : goal.returns
returns g c = sum g c

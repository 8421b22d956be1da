use Rattle.std.proofs.Common.{◌≡◌, ◌+◌, ◌*◌, ◌≤◌, ◌∙◌, ap, length, sym, refl, arith, rules}
use Rattle.std.proofs.iter.Serving.{serving}
use Rattle.std.specs.Option.{option_map}
use Rattle.sources.proofs.Bounds.{writer_few}
use Rattle.sources.specs.Questions.{writer, writes}
use Rattle.layers.proofs.Repeated.{writer_beyond, writer_turn, writer_unwritten}
use Rattle.layers.specs.Lists.{repeated, turns}
use Rattle.layers.specs.Sound.{repeated_sound}
use Rattle.layers.proofs.rounds.RoundsSource.writer.Given.{Over}
use Rattle.layers.proofs.rounds.RoundsSource.writer.Goals.{After-writer}
use Rattle.layers.proofs.rounds.RoundsSource.writer.Goals as goal

pub returns-in_err-turn : goal.returns-in_err-turn
returns-in_err-turn g c =
    let l = g.S.Source.list c.args.self.now.below in
    let none : writes c.args.cell l ≡ 0 = omega (arith, c.in_err-turn.ensures) in
    cc (writer_unwritten c.args.cell (turns c.args.self.now.times (length l)) c.args.count l none)

pub returns-then-turn-turns : goal.returns-then-turn-turns
returns-then-turn-turns g c =
    let l = g.S.Source.list c.args.self.now.below in
    sym (writer_beyond c.args.cell (turns c.args.self.now.times (length l)) c.args.count l (rw (← c.writes-writes.ensures.answer) (omega arith)))

-- the answer below, moved by whole turns
turned : (g : Over) (c : After-writer g) → writer c.args.cell c.args.count (repeated c.args.self.now.times (g.S.Source.list c.args.self.now.below)) ≡ option_map (λ p. c.in_ok-turn.turn * c.length-length.result + p) c.writer.result
turned g c =
    let l = g.S.Source.list c.args.self.now.below in
    let w = c.writes-writes.ensures.answer in
    rw (writer_turn c.args.cell (turns c.args.self.now.times (length l)) c.args.count l (omega arith) (rw (← w) (omega arith)), ← w, ← c.length-length.ensures, ← c.in_ok-turn.ensures.1, ← c.writer.ensures) refl

pub map-requires : goal.map-requires
map-requires g c x e =
    let v = c.args.self.now in
    let found = turned g (goal.at.map-requires g c).After-writer ∙ ap (option_map (λ p. c.in_ok-turn.turn * c.length-length.result + p)) e in
    let bound : c.in_ok-turn.turn * c.length-length.result + x ≤ 65535 = omega (arith, (repeated_sound v.times (g.S.Source.sound v.below)).short, writer_few c.args.cell c.args.count _ (repeated v.times (g.S.Source.list v.below)) found) in
    grind (serving, bound)

pub returns : goal.returns
returns g c =
    let moved : c.map.result ≡ option_map (λ p. c.in_ok-turn.turn * c.length-length.result + p) c.writer.result = search rules in
    moved ∙ sym (turned g (goal.at.returns g c).After-writer)

use Rattle.std.proofs.Common.{length, inl, inr, arith}
use Rattle.std.proofs.lemmas.Bool.{cases_lt}
use Rattle.layers.proofs.Repeated.{none_below, nth_turn}
use Rattle.layers.specs.Lists.{turns}
use Rattle.layers.proofs.rounds.RoundsSource.record_at.Goals as goal

pub nonzero_rem-position : goal.nonzero_rem-position
nonzero_rem-position g c =
    let l = g.S.Source.list c.args.self.now.below in
    elim (cases_lt 0 c.length-2.result) [
      | inl some ↦ some
      | inr none ↦ absurd (omega (arith, none_below (turns c.args.self.now.times (length l)) l (omega arith)))
    ]

pub returns : goal.returns
returns g c =
    let l = g.S.Source.list c.args.self.now.below in
    cc (nth_turn (turns c.args.self.now.times (length l)) c.args.position l (omega arith))

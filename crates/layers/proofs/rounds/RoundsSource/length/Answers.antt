use Rattle.std.proofs.Common.{length}
use Rattle.layers.specs.Lists.{turns}
use Rattle.layers.specs.Sound.{length_copies}
use Rattle.layers.proofs.rounds.RoundsSource.length.Goals as goal

pub returns : goal.returns
returns g c =
    let l = g.S.Source.list c.args.self.now.below in
    cc (length_copies (turns c.args.self.now.times (length l)) l)

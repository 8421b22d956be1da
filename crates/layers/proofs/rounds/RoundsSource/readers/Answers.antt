use Rattle.std.proofs.Common.{◌≡◌, suc, ◌+◌, ◌-◌, ◌*◌, ◌/◌, ◌%◌, ◌<◌, length, ◌⊎◌, inl, inr, arith}
use Rattle.std.proofs.lemmas.Nat.{div-add-mod', mod_below}
use Rattle.sources.proofs.Bounds.{readers_few}
use Rattle.sources.specs.Questions.{readers, writes}
use Rattle.layers.proofs.Repeated.{readers_between, readers_unwritten, readers_within}
use Rattle.layers.specs.Lists.{repeated, turns}
use Rattle.layers.specs.Sound.{repeated_sound}
use Rattle.layers.proofs.rounds.RoundsSource.readers.Given.{Over}
use Rattle.layers.proofs.rounds.RoundsSource.readers.Goals as goal
use Rattle.layers.proofs.rounds.RoundsSource.readers.Goals.{then-turn-eq0-via-then-turn-eq0, then-turn-eq0-via-else-turn-eq0+then-version-writes-gt0}

-- no write: all turns read one version
product : (g : Over) (c : goal.After-readers g) → c.turns.result * c.readers.result ≡ readers c.args.cell c.args.version (repeated c.args.self.now.times (g.S.Source.list c.args.self.now.below))
product g c =
    let l = g.S.Source.list c.args.self.now.below in
    cc (readers_unwritten c.args.cell c.args.version (turns c.args.self.now.times (length l)) l (cc))

pub overflow_mul-result : goal.overflow_mul-result
overflow_mul-result g c =
    omega (arith, product g c, readers_few c.args.cell c.args.version _ _ (repeated_sound c.args.self.now.times (g.S.Source.sound c.args.self.now.below)))

pub returns-then-writes-eq0 : goal.returns-then-writes-eq0
returns-then-writes-eq0 g c = product g c

pub returns-then-turn-eq0 : goal.returns-then-turn-eq0
returns-then-turn-eq0 g c =
    let l = g.S.Source.list c.args.self.now.below in
    let v = c.args.version in
    let w = c.writes-writes.result in
    let below : v % w < writes c.args.cell l = omega (arith, mod_below v w (omega arith)) in
    let alone : (v / w ≡ 0) ⊎ (0 < v % w) = elim c.then-turn-eq0.branch [
      | then-turn-eq0-via-then-turn-eq0 w ↦ inl w.if-turn-eq0.true
      | then-turn-eq0-via-else-turn-eq0+then-version-writes-gt0 w ↦ inr w.if-version-writes-gt0.true
    ] in
    cc (readers_within c.args.cell (turns c.args.self.now.times (length l)) (v / w) (v % w) l below alone, div-add-mod' v w)

-- both turns that read the version
sum : (g : Over) (c : goal.After-readers_in g) → c.readers_in-readers.result + c.readers_in.result ≡ readers c.args.cell c.args.version (repeated c.args.self.now.times (g.S.Source.list c.args.self.now.below))
sum g c =
    let l = g.S.Source.list c.args.self.now.below in
    let v = c.args.version in
    let w = c.writes-writes.result in
    let turn : v / w ≡ suc (v / w - 1) = omega arith in
    let begins : v % w ≡ 0 = omega arith in
    let at : suc (v / w - 1) * w ≡ v = rw (← turn) (omega (arith, div-add-mod' v w)) in
    cc (readers_between c.args.cell (turns c.args.self.now.times (length l)) (v / w - 1) l (omega arith), turn, begins, at)

pub overflow_add-result : goal.overflow_add-result
overflow_add-result g c =
    omega (arith, sum g c, readers_few c.args.cell c.args.version _ _ (repeated_sound c.args.self.now.times (g.S.Source.sound c.args.self.now.below)))

pub returns : goal.returns
returns g c = sum g c

use Rattle.std.proofs.Common.{◌≡◌, ◌*◌, ◌-◌, ◌<◌, ◌≤◌, length, ap, subst, sym, ◌∙◌, arith}
use Rattle.std.proofs.lemmas.Nat.{mul-le}
use Rattle.tab_core.specs.declared.TheConstants.{MAX_ROUNDS, ROUND}
use Rattle.run_counts.specs.declared.stretch.Stretch.{Stretch}
use Rattle.run_counts.specs.Stretches.{IsSmall, stretch_at}
use Rattle.run_counts.proofs.RepeatLemmas.{small_repeated, ticks_repeated}
use Rattle.run_counts.proofs.counting.append.Goals as goal

pub then-requires-clause-next : goal.then-requires-clause-next
then-requires-clause-next c =
    let within : c.loop-v.v < length c.args.run.now =
    omega (arith, c.loop-v-test.true, c.loop-v.invariant.size) in
    subst IsSmall (sym c.times.ensures) (small_repeated (stretch_at c.args.round.now c.loop-v.v) c.args.rounds
    (c.requires.round c.loop-v.v within).small)

pub then-requires-clause-fits : goal.then-requires-clause-fits
then-requires-clause-fits c =
    let v = c.loop-v.v in
    let within : v < length c.args.run.now = omega (arith, c.loop-v-test.true, c.loop-v.invariant.size) in
    let round : Stretch = stretch_at c.args.round.now v in
    let ticks : c.times.result.ticks ≡ round.ticks * c.args.rounds =
    ap (λ (w : Stretch). w.ticks) c.times.ensures ∙ ticks_repeated round c.args.rounds in
    let most : round.ticks * c.args.rounds ≤ ROUND * c.args.rounds =
    mul-le round.ticks c.args.rounds ROUND c.args.rounds (c.requires.round v within).before (omega arith) in
    let rest : (stretch_at c.args.run.now v).ticks ≤ (MAX_ROUNDS - c.args.rounds) * ROUND =
    (c.requires.fits v within).before in
    let same : (stretch_at c.loop-v.run v).ticks ≡ (stretch_at c.args.run.now v).ticks =
    ap (λ (w : Stretch). w.ticks) (c.loop-v.invariant.rest v (omega arith)) in
    omega (arith, ticks, most, rest, same, c.requires.few)

use Rattle.std.proofs.Common.{ap}
use Rattle.run_course.specs.Runs.{keeps_stints}
use Rattle.tableau_sim.proofs.RunLemmas.{room_for}
use Rattle.tableau_sim.proofs.commands.prepared.tell_bursts.Goals as goal

pub fill-requires-clause-kept : goal.fill-requires-clause-kept
fill-requires-clause-kept c =
    let asked = c.in-Burst.is in
    let kept = c.requires.kept asked in (
      kept.0,
      kept.1,
      room_for c.args.course.now c.args.rounds c.args.mode kept.0 c.args.script.now c.args.bursts.now c.requires.course kept.1.invariant
          (ap keeps_stints asked) c.requires.short (c.requires.room asked),
    )

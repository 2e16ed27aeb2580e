use Rattle.crew_turns.proofs.player.step_player.Goals.{then-eq, else-eq}
use Rattle.crew_turns.proofs.player.step_player.Goals as goal

pub returns-clause-same : goal.returns-clause-same
returns-clause-same g c =
    let same = c.step-turn.ensures.same in
    elim c.if-eq.branch [
      | then-eq w ↦ rw w.player-is (g.A.Stepper.lawful.further c.args.player.now.actor c.step-turn.new.self w.run_on.new.self same w.run_on.ensures.same)
      | else-eq w ↦ rw w.player-is same
    ]

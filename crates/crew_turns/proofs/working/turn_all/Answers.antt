use Rattle.round_words.specs.Seats.{view_of}
use Rattle.crew_turns.specs.Troops.{AreHeld}
use Rattle.crew_turns.proofs.GroupLemmas.{cores_on, lead_on}
use Rattle.crew_turns.proofs.working.turn_all.Given.{Over}
use Rattle.crew_turns.proofs.working.turn_all.Goals as goal
use Rattle.crew_turns.proofs.working.turn_all.Goals.{After-step_player, After-turn_core-progress}

-- the actors after a core ran on
mid : (g : Over) (c : After-turn_core-progress g) → AreHeld g.C.Stepper.kind g.L.Stepper.kind c.turn_core-progress.new.cores c.args.lead.now (view_of c.turn_core-progress.new.seat)
mid g c = (let e = c.turn_core-progress.ensures in
    cores_on g.C.Stepper.kind g.L.Stepper.kind g.C.Stepper.lawful g.L.Stepper.lawful c.args.cores.now c.args.lead.now (view_of c.args.seat.now) (view_of c.turn_core-progress.new.seat)
    c.requires.held c.turn_core-progress.new.cores e.agree e.further e.changes)

-- the actors after the controller's step
led : (g : Over) (c : After-step_player g) → AreHeld g.C.Stepper.kind g.L.Stepper.kind c.turn_core-progress.new.cores c.args.lead.now (view_of c.turn_core-progress.new.seat)
    → AreHeld g.C.Stepper.kind g.L.Stepper.kind c.turn_core-progress.new.cores c.step_player.new.player (view_of c.step_player.new.seat)
led g c held = (let e = c.step_player.ensures in
    lead_on g.C.Stepper.kind g.L.Stepper.kind g.C.Stepper.lawful g.L.Stepper.lawful c.turn_core-progress.new.cores c.args.lead.now (view_of c.turn_core-progress.new.seat) (view_of c.step_player.new.seat)
    held c.step_player.new.player e.same e.changes e.agrees)

pub returns-then-not-shift-clause-held : goal.returns-then-not-shift-clause-held
returns-then-not-shift-clause-held g c = mid g (goal.at.returns-then-not-shift-clause-held g c).After-turn_core-progress

pub returns-then-shift-cores-clause-held : goal.returns-then-shift-cores-clause-held
returns-then-shift-cores-clause-held g c = mid g (goal.at.returns-then-shift-cores-clause-held g c).After-turn_core-progress

pub step_player-requires-clause-agrees : goal.step_player-requires-clause-agrees
step_player-requires-clause-agrees g c κs within = (mid g (goal.at.step_player-requires-clause-agrees g c).After-turn_core-progress).control_agrees

pub returns-in-Moved-clause-held : goal.returns-in-Moved-clause-held
returns-in-Moved-clause-held g c = led g (goal.at.returns-in-Moved-clause-held g c).After-step_player (mid g (goal.at.returns-in-Moved-clause-held g c).After-turn_core-progress)

pub returns-in-Waits-clause-held : goal.returns-in-Waits-clause-held
returns-in-Waits-clause-held g c = led g (goal.at.returns-in-Waits-clause-held g c).After-step_player (mid g (goal.at.returns-in-Waits-clause-held g c).After-turn_core-progress)

pub returns-in-Stopped-clause-held : goal.returns-in-Stopped-clause-held
returns-in-Stopped-clause-held g c = led g (goal.at.returns-in-Stopped-clause-held g c).After-step_player (mid g (goal.at.returns-in-Stopped-clause-held g c).After-turn_core-progress)

pub returns-in-Ended-clause-held : goal.returns-in-Ended-clause-held
returns-in-Ended-clause-held g c = led g (goal.at.returns-in-Ended-clause-held g c).After-step_player (mid g (goal.at.returns-in-Ended-clause-held g c).After-turn_core-progress)

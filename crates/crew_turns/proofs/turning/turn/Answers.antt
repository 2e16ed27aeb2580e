use Rattle.std.proofs.Common.{sym, ◌∙◌}
use Rattle.round_words.specs.Seats.{view_of}
use Rattle.crew_turns.proofs.TurnLemmas.{LedOn, lead_agrees, led_on, mid_agreed, told_over, told_stops, told_waits}
use Rattle.crew_turns.proofs.turning.turn.Given.{Over}
use Rattle.crew_turns.proofs.turning.turn.Goals as goal
use Rattle.crew_turns.proofs.turning.turn.Goals.{After-step_player}

pub returns-then-not-roster-clause-told : goal.returns-then-not-roster-clause-told
returns-then-not-roster-clause-told g c = told_over g.C.Stepper.kind g.L.Stepper.kind g.C.Stepper.lawful g.L.Stepper.lawful c.args.cores.now c.turn_cores-progress.new.cores c.args.lead.now
    c.args.roster.now.ticks c.turn_cores-progress.new.roster.ticks c.args.roster.now.posting (view_of c.args.seat.now) (view_of c.turn_cores-progress.new.seat)
    c.requires.agreed c.requires.posting c.turn_cores-progress.ensures.cores c.turn_cores-progress.ensures.ticks c.turn_cores-progress.ensures.goes
    (sym c.turn_cores-progress.ensures.posting ∙ c.if-not-roster.true) c.turn_cores-progress.new.roster.posting c.turn_cores-progress.ensures.posting c.turn_cores-progress.result c.turn_cores-progress.ensures.told

pub returns-then-roster-cores-clause-agreed : goal.returns-then-roster-cores-clause-agreed
returns-then-roster-cores-clause-agreed g c = mid_agreed g.C.Stepper.kind g.L.Stepper.kind g.C.Stepper.lawful g.L.Stepper.lawful c.args.cores.now c.turn_cores-progress.new.cores c.args.lead.now
    c.args.roster.now.ticks c.turn_cores-progress.new.roster.ticks c.args.roster.now.posting (view_of c.args.seat.now) (view_of c.turn_cores-progress.new.seat)
    c.requires.agreed c.requires.posting c.turn_cores-progress.ensures.cores c.turn_cores-progress.ensures.ticks c.turn_cores-progress.ensures.goes

pub step_player-requires-clause-agrees : goal.step_player-requires-clause-agrees
step_player-requires-clause-agrees g c κs within = lead_agrees g.C.Stepper.kind g.L.Stepper.kind g.C.Stepper.lawful g.L.Stepper.lawful c.args.cores.now c.turn_cores-progress.new.cores c.args.lead.now
    c.args.roster.now.ticks c.turn_cores-progress.new.roster.ticks c.args.roster.now.posting (view_of c.args.seat.now) (view_of c.turn_cores-progress.new.seat)
    c.requires.agreed c.requires.posting c.turn_cores-progress.ensures.cores c.turn_cores-progress.ensures.ticks c.turn_cores-progress.ensures.goes (sym c.turn_cores-progress.ensures.posting ∙ c.if-not-roster.false)

-- what holds after the controller's step
led : (g : Over) (c : After-step_player g) → LedOn g.C.Stepper.kind g.L.Stepper.kind c.turn_cores-progress.new.cores c.step_player.new.player
    c.turn_cores-progress.new.roster.ticks (view_of c.args.seat.now) (view_of c.step_player.new.seat)
led g c = led_on g.C.Stepper.kind g.L.Stepper.kind g.C.Stepper.lawful g.L.Stepper.lawful c.args.cores.now c.turn_cores-progress.new.cores c.args.lead.now
    c.args.roster.now.ticks c.turn_cores-progress.new.roster.ticks c.args.roster.now.posting (view_of c.args.seat.now) (view_of c.turn_cores-progress.new.seat)
    c.requires.agreed c.requires.posting c.turn_cores-progress.ensures.cores c.turn_cores-progress.ensures.ticks c.turn_cores-progress.ensures.goes
    c.step_player.new.player (view_of c.step_player.new.seat) c.step_player.ensures.changes c.step_player.ensures.parts c.step_player.ensures.same c.step_player.ensures.agrees

pub returns-in-Moved-clause-agreed : goal.returns-in-Moved-clause-agreed
returns-in-Moved-clause-agreed g c = (led g (goal.at.returns-in-Moved-clause-agreed g c).After-step_player).agreed

pub returns-in-Moved-clause-ticks : goal.returns-in-Moved-clause-ticks
returns-in-Moved-clause-ticks g c = (led g (goal.at.returns-in-Moved-clause-ticks g c).After-step_player).clocks

pub returns-in-Moved-clause-parts : goal.returns-in-Moved-clause-parts
returns-in-Moved-clause-parts g c = (led g (goal.at.returns-in-Moved-clause-parts g c).After-step_player).parts

pub returns-in-Waits-clause-agreed : goal.returns-in-Waits-clause-agreed
returns-in-Waits-clause-agreed g c = (led g (goal.at.returns-in-Waits-clause-agreed g c).After-step_player).agreed

pub returns-in-Waits-clause-ticks : goal.returns-in-Waits-clause-ticks
returns-in-Waits-clause-ticks g c = (led g (goal.at.returns-in-Waits-clause-ticks g c).After-step_player).clocks

pub returns-in-Waits-clause-told : goal.returns-in-Waits-clause-told
returns-in-Waits-clause-told g c = (let told = c.in-Waits.ensures.told in told_waits g.C.Stepper.kind g.L.Stepper.kind g.C.Stepper.lawful g.L.Stepper.lawful c.args.cores.now c.turn_cores-progress.new.cores c.args.lead.now
    c.args.roster.now.ticks c.turn_cores-progress.new.roster.ticks c.args.roster.now.posting (view_of c.args.seat.now) (view_of c.turn_cores-progress.new.seat)
    c.requires.agreed c.requires.posting c.turn_cores-progress.ensures.cores c.turn_cores-progress.ensures.ticks c.turn_cores-progress.ensures.goes
    c.step_player.new.player (view_of c.step_player.new.seat) c.step_player.ensures.changes c.step_player.ensures.parts c.step_player.ensures.same c.step_player.ensures.agrees told.0 told.1 told.2
    c.turn_cores-progress.new.roster.posting c.turn_cores-progress.ensures.posting c.turn_cores-progress.result c.or_waits.result c.or_waits.ensures c.turn_cores-progress.ensures.told)

pub returns-in-Stopped-clause-agreed : goal.returns-in-Stopped-clause-agreed
returns-in-Stopped-clause-agreed g c = (led g (goal.at.returns-in-Stopped-clause-agreed g c).After-step_player).agreed

pub returns-in-Stopped-clause-ticks : goal.returns-in-Stopped-clause-ticks
returns-in-Stopped-clause-ticks g c = (led g (goal.at.returns-in-Stopped-clause-ticks g c).After-step_player).clocks

pub returns-in-Stopped-clause-told : goal.returns-in-Stopped-clause-told
returns-in-Stopped-clause-told g c = (let told = c.in-Stopped.ensures.told in told_stops g.C.Stepper.kind g.L.Stepper.kind g.C.Stepper.lawful g.L.Stepper.lawful c.args.cores.now c.turn_cores-progress.new.cores c.args.lead.now
    c.args.roster.now.ticks c.turn_cores-progress.new.roster.ticks c.args.roster.now.posting (view_of c.args.seat.now) (view_of c.turn_cores-progress.new.seat)
    c.requires.agreed c.requires.posting c.turn_cores-progress.ensures.cores c.turn_cores-progress.ensures.ticks c.turn_cores-progress.ensures.goes
    c.step_player.new.player (view_of c.step_player.new.seat) c.step_player.ensures.changes c.step_player.ensures.parts c.step_player.ensures.same c.step_player.ensures.agrees told.0 told.1 told.2
    c.turn_cores-progress.new.roster.posting c.turn_cores-progress.ensures.posting c.turn_cores-progress.result c.or_stops.result c.or_stops.ensures c.turn_cores-progress.ensures.told)

pub returns-in-Ended-clause-agreed : goal.returns-in-Ended-clause-agreed
returns-in-Ended-clause-agreed g c = (led g (goal.at.returns-in-Ended-clause-agreed g c).After-step_player).agreed

pub returns-in-Ended-clause-ticks : goal.returns-in-Ended-clause-ticks
returns-in-Ended-clause-ticks g c = (led g (goal.at.returns-in-Ended-clause-ticks g c).After-step_player).clocks

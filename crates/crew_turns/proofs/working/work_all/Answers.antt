use Rattle.round_words.specs.Seats.{view_of}
use Rattle.crew_turns.specs.Troops.{AreSame}
use Rattle.crew_turns.proofs.GoingLemmas.{actors_twice}
use Rattle.crew_turns.proofs.TurnLemmas.{same_twice}
use Rattle.crew_turns.proofs.working.work_all.Given.{Over}
use Rattle.crew_turns.proofs.working.work_all.Goals as goal
use Rattle.crew_turns.proofs.working.work_all.Goals.{After-turn_all-progress}

-- after a turn the actors are those that came, some steps on
still : (g : Over) (c : After-turn_all-progress g) → AreSame g.C.Stepper.kind g.L.Stepper.kind c.args.cores.now c.args.lead.now c.turn_all-progress.new.cores c.turn_all-progress.new.lead
still g c = same_twice g.C.Stepper.kind g.L.Stepper.kind g.C.Stepper.lawful g.L.Stepper.lawful c.args.cores.now c.loop.cores c.turn_all-progress.new.cores
    c.args.lead.now c.loop.lead c.turn_all-progress.new.lead c.loop.invariant.same c.turn_all-progress.ensures.same

pub returns-then-not-goes_on-clause-same : goal.returns-then-not-goes_on-clause-same
returns-then-not-goes_on-clause-same g c = still g (goal.at.returns-then-not-goes_on-clause-same g c).After-turn_all-progress

pub loop-preserved : goal.loop-preserved
loop-preserved g c = (let e = c.turn_all-progress.ensures in record {
  board = e.board;
  held = e.held;
  same = still g (goal.at.loop-preserved g c).After-turn_all-progress;
  actors = actors_twice (view_of c.args.seat.now) (view_of c.loop.seat) (view_of c.turn_all-progress.new.seat) c.loop.invariant.actors e.actors;
})

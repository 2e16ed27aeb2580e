use Rattle.round_words.specs.Seats.{view_of}
use Rattle.crew_turns.specs.Groups.{AreFurther}
use Rattle.crew_turns.proofs.GoingLemmas.{actors_twice}
use Rattle.crew_turns.proofs.GroupLemmas.{further_twice}
use Rattle.crew_turns.proofs.working.work_cores.Given.{Over}
use Rattle.crew_turns.proofs.working.work_cores.Goals as goal
use Rattle.crew_turns.proofs.working.work_cores.Goals.{After-turn_core-progress}

-- after a turn the cores are those that came, some steps on
still : (g : Over) (c : After-turn_core-progress g) → AreFurther g.C.Stepper.kind c.args.cores.now c.turn_core-progress.new.cores
still g c = further_twice g.C.Stepper.kind g.C.Stepper.lawful c.args.cores.now c.loop.cores c.turn_core-progress.new.cores c.loop.invariant.further c.turn_core-progress.ensures.further

pub returns-then-not-goes_on-clause-further : goal.returns-then-not-goes_on-clause-further
returns-then-not-goes_on-clause-further g c = still g (goal.at.returns-then-not-goes_on-clause-further g c).After-turn_core-progress

pub loop-preserved : goal.loop-preserved
loop-preserved g c = (let e = c.turn_core-progress.ensures in record {
  board = e.board;
  agree = e.agree;
  further = still g (goal.at.loop-preserved g c).After-turn_core-progress;
  actors = actors_twice (view_of c.args.seat.now) (view_of c.loop.seat) (view_of c.turn_core-progress.new.seat) c.loop.invariant.actors e.changes.actors;
})

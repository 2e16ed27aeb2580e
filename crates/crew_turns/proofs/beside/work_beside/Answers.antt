use Rattle.std.proofs.Common.{◌∙◌}
use Rattle.round_words.specs.Seats.{view_of}
use Rattle.crew_turns.proofs.GoingLemmas.{actors_twice}
use Rattle.crew_turns.proofs.TurnLemmas.{same_twice}
use Rattle.crew_turns.proofs.beside.work_beside.Goals as goal

pub phases-preserved : goal.phases-preserved
phases-preserved g c = (let i = c.phases.invariant in let e = c.make_phase.ensures in record {
  board = e.board;
  held = e.held;
  same = same_twice g.C.Stepper.kind g.L.Stepper.kind g.C.Stepper.lawful g.L.Stepper.lawful c.args.cores.items c.phases.cores.items c.make_phase.new.cores.items
      c.args.lead c.phases.lead c.make_phase.new.lead i.same e.same;
  actors = actors_twice (view_of c.args.seat) (view_of c.phases.seat) (view_of c.make_phase.new.seat) i.actors e.actors;
  room = e.room ∙ i.room;
})

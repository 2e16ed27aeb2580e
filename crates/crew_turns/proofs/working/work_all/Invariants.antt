use Rattle.round_words.specs.Seats.{view_of, IsSeatOf}
use Rattle.crew_turns.specs.Going.{SameActors}
use Rattle.crew_turns.specs.Troops.{AreHeld, AreSame}
use Rattle.crew_turns.proofs.working.work_all.Given as goal

abbrev pub invariant-loop : goal.invariant-loop
invariant-loop g l = record {
  board : IsSeatOf l.fn.site.board.now l.seat;
  held : AreHeld g.C.Stepper.kind g.L.Stepper.kind l.cores l.lead (view_of l.seat);
  same : AreSame g.C.Stepper.kind g.L.Stepper.kind l.fn.cores l.fn.lead l.cores l.lead;
  actors : SameActors (view_of l.fn.seat) (view_of l.seat);
}

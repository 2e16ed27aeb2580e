use Rattle.round_words.specs.Seats.{view_of, IsSeatOf}
use Rattle.crew_turns.specs.Going.{SameActors}
use Rattle.crew_turns.specs.Groups.{AgreeApart, AreFurther}
use Rattle.crew_turns.proofs.working.work_cores.Given as goal

abbrev pub invariant-loop : goal.invariant-loop
invariant-loop g l = record {
  board : IsSeatOf l.fn.site.board.now l.seat;
  agree : AgreeApart g.C.Stepper.kind l.cores (view_of l.seat);
  further : AreFurther g.C.Stepper.kind l.fn.cores l.cores;
  actors : SameActors (view_of l.fn.seat) (view_of l.seat);
}

use Rattle.std.proofs.Common.{◌≡◌}
use Rattle.std.specs.Prelude.{vec_capacity}
use Rattle.round_words.specs.Seats.{view_of, IsSeatOf}
use Rattle.crew_turns.specs.Going.{SameActors}
use Rattle.crew_turns.specs.Troops.{AreHeld, AreSame}
use Rattle.crew_turns.proofs.beside.work_beside.Given as goal

abbrev pub invariant-phases : goal.invariant-phases
invariant-phases g l = record {
  board : IsSeatOf l.fn.site.board.now l.seat;
  held : AreHeld g.C.Stepper.kind g.L.Stepper.kind l.cores.items l.lead (view_of l.seat);
  same : AreSame g.C.Stepper.kind g.L.Stepper.kind l.fn.cores.items l.fn.lead l.cores.items l.lead;
  actors : SameActors (view_of l.fn.seat) (view_of l.seat);
  room : vec_capacity l.cores ≡ vec_capacity l.fn.cores;
}

abbrev pub decreases-phases : goal.decreases-phases
decreases-phases g l = l.left

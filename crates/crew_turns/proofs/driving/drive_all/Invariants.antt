use Rattle.std.proofs.Common.{◌⊎◌, ◌<◌, ◌≤◌, ◌+◌, ◌*◌}
use Rattle.round_words.specs.Seats.{view_of, IsSeatOf}
use Rattle.crew_turns.specs.Going.{PartsGoOn, SameActors}
use Rattle.crew_turns.specs.Inside.Clocks.{AreTicks, IsPosting}
use Rattle.crew_turns.specs.Inside.Turns.{left_to_do}
use Rattle.crew_turns.specs.Troops.{AreAgreed, AreAtRest, AreSame}
use Rattle.crew_turns.proofs.driving.drive_all.Given as goal

abbrev pub invariant-driving : goal.invariant-driving
invariant-driving g l = record {
  board : IsSeatOf l.fn.site.board.now l.seat;
  agreed : AreAgreed g.C.Stepper.kind g.L.Stepper.kind l.cores l.lead (view_of l.seat);
  ticks : AreTicks g.C.Stepper.kind l.cores (view_of l.seat) l.roster.ticks;
  posting : IsPosting g.L.Stepper.kind l.lead (view_of l.seat) l.roster.posting;
  same : AreSame g.C.Stepper.kind g.L.Stepper.kind l.fn.cores l.fn.lead l.cores l.lead;
  actors : SameActors (view_of l.fn.seat) (view_of l.seat);
  parts : PartsGoOn (view_of l.fn.seat) (view_of l.seat);
  few : l.left ≤ 10000000;
  rests : (0 < l.left) ⊎ AreAtRest g.C.Stepper.kind g.L.Stepper.kind l.cores l.lead (view_of l.fn.seat) (view_of l.seat);
}

abbrev pub decreases-driving : goal.decreases-driving
decreases-driving g l = left_to_do g.L.Stepper.kind l.roster.ticks l.lead l.roster.posting * 10000001 + l.left

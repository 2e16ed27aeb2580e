use Rattle.round_words.specs.Seats.{view_of, IsSeatOf}
use Rattle.crew_turns.specs.Going.{SameActors}
use Rattle.crew_turns.specs.Troops.{AreAgreed, AreSame}
use Rattle.live_plan.specs.Players.{live_core_kind, live_lead_kind}
use Rattle.live_plan.proofs.workers.finish.Given as goal

abbrev pub invariant-loop : goal.invariant-loop
invariant-loop g l = record {
  board : IsSeatOf l.fn.site.board.now l.seat;
  agreed : AreAgreed live_core_kind live_lead_kind l.members l.lead (view_of l.seat);
  same : AreSame live_core_kind live_lead_kind l.fn.members l.fn.lead l.members l.lead;
  actors : SameActors (view_of l.fn.seat) (view_of l.seat);
}

use Rattle.round_words.specs.Seats.{IsSeatOf, view_of}
use Rattle.plan_switch.specs.Controllers.{ControlAgreesWith}
use Rattle.tests_threads.proofs.actors.posts_all.Given as goal

abbrev pub invariant-loop-posted : goal.invariant-loop-posted
invariant-loop-posted l = record {
  board : IsSeatOf l.board l.seat;
  agrees : ControlAgreesWith l.controller.course l.controller.state (view_of l.seat);
}

use Rattle.std.proofs.Common.{◌≡◌, length}
use Rattle.live_plan.specs.Inside.Outcomes.{AreOutcomesOf, IsSameButCells}
use Rattle.live_plan.proofs.into_book.outcomes_in.Given as goal

abbrev pub invariant-loop-change : goal.invariant-loop-change
invariant-loop-change l = record {
  count : length l.made.items ≡ l.change;
  each : AreOutcomesOf l.fn.book l.made.items;
  same : IsSameButCells l.fn.book l.book;
}

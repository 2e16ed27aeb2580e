use Rattle.std.proofs.Common.{◌≡◌, ◌+◌, ◌-◌, ◌*◌, ◌<◌, ◌≤◌, ℕ, length}
use Rattle.tab_core.specs.declared.TheConstants.{ROUND}
use Rattle.table_form.specs.Running.Courses.{CourseView, InEachCourse}
use Rattle.table_form.specs.Tables.Plans.{PlanView}
use Rattle.slice_table.specs.Slices.{HoldsTick, IsTableOf, ends_of}
use Rattle.round_words.specs.Changes.{ChangesOnly}
use Rattle.round_words.specs.Seats.{view_of, IsSeatOf}
use Rattle.round_words.specs.Views.{part}
use Rattle.dispatch_core.specs.Inside.Logs.{IsLog, log_view}
use Rattle.dispatch_core.specs.States.{AgreesWithoutPlan, FollowsPlans, IsSameCore}
use Rattle.dispatch_core.specs.Told.{BeganBy, MakesSteps}
use Rattle.dispatch_core.proofs.running.run_log.Given as goal

abbrev pub invariant-running : goal.invariant-running
invariant-running g l = record {
  board : IsSeatOf l.fn.board l.seat;
  log : IsLog l.log;
  stands : AgreesWithoutPlan l.fn.way.outline.now (log_view l.log) (view_of l.seat);
  same : IsSameCore (log_view l.fn.log) (log_view l.log);
  changes : ChangesOnly (view_of l.fn.seat) (view_of l.seat) l.fn.log.core;
  told : (count : ℕ) × (made : MakesSteps l.fn.way.outline.now l.fn.log.rounds l.fn.log.core count (view_of l.fn.seat) (view_of l.seat))
      × BeganBy l.fn.limit l.fn.way.outline.now l.fn.log.rounds l.fn.log.core count (view_of l.fn.seat) (view_of l.seat) made;
  used : l.log.used.items ≡ l.fn.log.used.items;
  begin : l.start ≡ (length l.fn.log.used.items - 1) * ROUND;
  last : l.last ≤ l.start + (ROUND - 1);
  bound : l.last ≤ l.fn.limit;
  from : l.start ≤ l.log.clock;
  small : l.number < 4294967296;
  holds : l.log.clock ≤ l.last → HoldsTick (ends_of l.fn.way.table.now) l.number (l.log.clock - l.start);
  plans : (plan : PlanView) → IsTableOf plan l.fn.log.core l.fn.way.table.now → InEachCourse l.fn.way.outline.now l.fn.way.used plan
      (λ (course : CourseView). FollowsPlans course (log_view l.fn.log) (part (view_of l.fn.seat) l.fn.log.core)
      → FollowsPlans course (log_view l.log) (part (view_of l.seat) l.fn.log.core));
}

abbrev pub decreases-running : goal.decreases-running
decreases-running g l = 4294967296 - l.log.clock

-- What the functions that end a step have in common: what holds before, and what the end answers.
use Rattle.std.specs.Prelude.{ℕ, ◌%◌}
use Rattle.tab_core.specs.declared.TheConstants.{ROUND}
use Rattle.table_form.specs.declared.span.Span.{Span}
use Rattle.table_form.specs.Running.Courses.{CourseView, InEachCourse}
use Rattle.table_form.specs.Tables.Plans.{PlanView}
use Rattle.table_form.specs.Tables.Spans.{IsSpan}
use Rattle.slice_table.specs.Slices.{IsTableOf}
use Rattle.round_words.specs.declared.board.RoundBoard.{RoundBoard}
use Rattle.round_words.specs.Changes.{ChangesOnly}
use Rattle.round_words.specs.SeatViews.{SeatView}
use Rattle.round_words.specs.Seats.{view_of, IsSeatOf}
use Rattle.round_words.specs.Views.{part}
use Rattle.dispatch_core.specs.declared.answer.Ended.{Ended}
use Rattle.dispatch_core.specs.declared.log.CoreLog.{CoreLog}
use Rattle.dispatch_core.specs.declared.way.Way.{Way}
use Rattle.dispatch_core.specs.Inside.Logs.{IsLog, log_view}
use Rattle.dispatch_core.specs.States.{AgreesWithoutPlan, FollowsPlans, HasBegun, IsSameCore}
use Rattle.dispatch_core.specs.Told.{EndGoes, EndTold, StaysWhereBehind}

-- a step is to end that has begun with so many events seen, of the core of this log, by this seat
pub record IsToEnd (of : RoundBoard) (way : Way) (seen : ℕ) (seat : SeatView) (kept : CoreLog) : Type 0 where
  pub board : IsSeatOf of seat
  pub log : IsLog kept
  pub stands : AgreesWithoutPlan way.outline.now (log_view kept) (view_of seat)
  pub begun : HasBegun way.outline.now (log_view kept) (view_of seat) seen way.used

-- the step ends with this answer, and leaves the seat and the log so. What is said by plans holds by each that `Fits`
pub record EndsStep (of : RoundBoard) (way : Way) (Fits : PlanView → Type 0) (old : SeatView) (kept : CoreLog)
    (answer : Ended) (new : SeatView) (left : CoreLog) : Type 0 where
  pub board : IsSeatOf of new
  pub log : IsLog left
  pub stands : AgreesWithoutPlan way.outline.now (log_view left) (view_of new)
  pub same : IsSameCore (log_view kept) (log_view left)
  -- no part but the core's changes
  pub changes : ChangesOnly (view_of old) (view_of new) kept.core
  -- by a course that uses the plan: what the step did
  pub told : (plan : PlanView) → Fits plan → InEachCourse way.outline.now way.used plan (λ (course : CourseView).
      FollowsPlans course (log_view kept) (part (view_of old) kept.core)
      → EndTold course kept.core (view_of old) answer (view_of new))
  -- whatever the plan: what the step did
  pub waits : StaysWhereBehind kept.core (view_of old) answer (view_of new)
  pub goes : EndGoes way.outline.now kept.core (view_of old) answer (view_of new)
  -- by a course that uses the plan: the log follows its plans again
  pub plans : (plan : PlanView) → Fits plan → InEachCourse way.outline.now way.used plan (λ (course : CourseView).
      FollowsPlans course (log_view kept) (part (view_of old) kept.core)
      → FollowsPlans course (log_view left) (part (view_of new) kept.core))

-- the slice table that the step goes by is the core's of the plan
abbrev pub ByTable : Way → CoreLog → PlanView → Type 0
ByTable way kept plan = IsTableOf plan kept.core way.table.now

-- the plan shows the core this span at its clock's place
abbrev pub BySpan : Span → CoreLog → PlanView → Type 0
BySpan span kept plan = IsSpan plan kept.core (kept.clock % ROUND) span.owner span.sharers.now span.end

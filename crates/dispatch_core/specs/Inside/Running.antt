-- What a step of a core has in common that runs on in its round: what holds before, and what the step does.
use Rattle.std.specs.Prelude.{◌≡◌, ℕ, ◌+◌, ◌-◌, ◌*◌, ◌/◌, ◌%◌, ◌<◌, ◌≤◌, Some, slice_get}
use Rattle.tab_core.specs.declared.TheConstants.{ROUND}
use Rattle.table_form.specs.declared.span.Span.{Span}
use Rattle.table_form.specs.Running.Courses.{CourseView, InEachCourse}
use Rattle.table_form.specs.Tables.Plans.{PlanView}
use Rattle.round_words.specs.declared.board.RoundBoard.{RoundBoard}
use Rattle.round_words.specs.Changes.{ChangesOnly}
use Rattle.round_words.specs.SeatViews.{SeatView}
use Rattle.round_words.specs.Seats.{view_of, IsSeatOf}
use Rattle.round_words.specs.Views.{part}
use Rattle.dispatch_core.specs.declared.answer.CoreAnswer.{CoreAnswer}
use Rattle.dispatch_core.specs.declared.answer.CoreAnswer.TheVariants.{Ran, Behind, Finished}
use Rattle.dispatch_core.specs.declared.answer.Ended.{Ended}
use Rattle.dispatch_core.specs.declared.answer.Ended.TheVariants.{Ran as RanOn, Behind as TooEarly}
use Rattle.dispatch_core.specs.declared.log.CoreLog.{CoreLog}
use Rattle.dispatch_core.specs.declared.way.Way.{Way}
use Rattle.dispatch_core.specs.Inside.Ending.{BySpan}
use Rattle.dispatch_core.specs.Inside.Logs.{IsLog, log_view}
use Rattle.dispatch_core.specs.States.{AgreesWithoutPlan, FollowsPlans, IsSameCore}
use Rattle.dispatch_core.specs.Told.{CoreGoes}

-- the core of this log, which isn't at the run's end, runs on by this seat in its clock's round, which it has entered
pub record IsToRun (of : RoundBoard) (way : Way) (seat : SeatView) (kept : CoreLog) : Type 0 where
  pub board : IsSeatOf of seat
  pub log : IsLog kept
  pub stands : AgreesWithoutPlan way.outline.now (log_view kept) (view_of seat)
  pub unfinished : kept.clock < kept.rounds * ROUND
  pub entered : slice_get kept.used.items (kept.clock / ROUND) ≡ Some way.used

-- a stint that was run ends at the span's end, which is this tick of the run, at the latest
abbrev pub EndsInside : ℕ → Ended → Type 0
EndsInside tick (RanOn s) = s.end ≤ tick
EndsInside tick (TooEarly d low) = Unit {0}

-- a stint that was run ends by this tick of the run, and its end is the clock
abbrev pub EndsAt : ℕ → CoreAnswer → ℕ → Type 0
EndsAt tick (Ran s) clock = (s.end ≤ tick) × (clock ≡ s.end)
EndsAt tick (Behind who low) clock = Unit {0}
EndsAt tick Finished clock = Unit {0}

-- the step at this span answers so, and leaves the seat and the log so
pub record GoesBySpan (of : RoundBoard) (way : Way) (span : Span) (old : SeatView) (kept : CoreLog) (answer : CoreAnswer)
    (new : SeatView) (left : CoreLog) : Type 0 where
  pub board : IsSeatOf of new
  pub log : IsLog left
  pub stands : AgreesWithoutPlan way.outline.now (log_view left) (view_of new)
  pub same : IsSameCore (log_view kept) (log_view left)
  pub changes : ChangesOnly (view_of old) (view_of new) kept.core
  pub goes : CoreGoes way.outline.now kept.rounds kept.core (view_of old) answer (view_of new)
  -- no round is entered
  pub used : left.used.items ≡ kept.used.items
  pub later : kept.clock ≤ left.clock
  pub ends : EndsAt (kept.clock - kept.clock % ROUND + span.end) answer left.clock
  -- by a course whose plan shows the span: the log follows its plans again
  pub plans : (plan : PlanView) → BySpan span kept plan → InEachCourse way.outline.now way.used plan (λ (course : CourseView).
      FollowsPlans course (log_view kept) (part (view_of old) kept.core)
      → FollowsPlans course (log_view left) (part (view_of new) kept.core))

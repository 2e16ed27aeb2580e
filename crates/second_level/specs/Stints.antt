-- Where a stint begins, and what is said of the one that comes next there.
-- Source: the rules of this project; whom a stint runs and how long it is says `IsDispatch` of table_form.
use Rattle.std.specs.Prelude.{◌≡◌, ℕ, ◌+◌, ◌-◌, ◌*◌, ◌/◌, ◌%◌, ◌^◌, ◌<◌, ◌≤◌, List, length, if◌then◌else◌}
use Rattle.tab_core.specs.declared.TheConstants.{ROUND}
use Rattle.tab_core.specs.declared.stint.Stint.{Stint}
use Rattle.table_form.specs.declared.span.Span.{Span}
use Rattle.table_form.specs.Running.Choice.{IsDispatch, is_shared, last_after, last_shared}
use Rattle.table_form.specs.Running.Courses.{CourseView, InEachCourse}
use Rattle.table_form.specs.Running.Outlines.{OutlineView}
use Rattle.table_form.specs.Tables.Plans.{PlanView}
use Rattle.table_form.specs.Tables.Spans.{IsSpan}
use Rattle.second_level.specs.declared.stints.Begin.{Begin}
use Rattle.second_level.specs.declared.stints.Next.{Next}

-- a stint can begin there, in this span of its row
pub record CanBegin (o : OutlineView) (begin : Begin) (span : Span) : Type 0 where
  -- no run is as long
  pub from : begin.from ≤ 2 ^ 31
  -- the outline has the events that are seen
  pub seen : begin.seen ≤ length o.ticks
  -- the span ends beyond the place, and no later than the round
  pub after : begin.from % ROUND < span.end
  pub within : span.end ≤ ROUND

-- the plan shows core c this span where the stint begins
abbrev pub ShowsSpan : PlanView → ℕ → Begin → Span → Type 0
ShowsSpan plan c begin span = IsSpan plan c (begin.from % ROUND) span.owner span.sharers.now span.end

-- this stint comes next on core c from there on, in this span, and leaves this to the one after it
pub record LeadsTo (o : OutlineView) (c : ℕ) (begin : Begin) (span : Span) (next : Next) : Type 0 where
  -- the stint begins there, with these counts
  pub from : next.stint.from ≡ begin.from
  pub seen : next.stint.seen ≡ begin.seen
  pub used : next.stint.used ≡ begin.used
  -- it has a tick at least, and none beyond its round
  pub some : next.stint.from < next.stint.end
  pub in_round : next.stint.end ≤ (next.stint.from / ROUND + 1) * ROUND
  -- it ends with the span at the latest
  pub in_span : next.stint.end ≤ next.stint.from - next.stint.from % ROUND + span.end
  -- in each course of the outline whose plan there shows the core this span, it is the one that the rules choose
  pub follows : (plan : PlanView) → ShowsSpan plan c begin span → InEachCourse o begin.used plan (λ (course : CourseView).
      (earlier : List Stint) → begin.last ≡ last_shared course c earlier → IsDispatch course c earlier next.stint)
  -- in each such course it is shared exactly where that is said
  pub shared : (plan : PlanView) → ShowsSpan plan c begin span → InEachCourse o begin.used plan (λ (course : CourseView).
      next.shared ≡ is_shared course c next.stint)
  -- in each such course this is the core's last shared pick after it
  pub last : (plan : PlanView) → ShowsSpan plan c begin span → InEachCourse o begin.used plan (λ (course : CourseView).
      next.last ≡ last_after course c begin.last next.stint)
  -- a shared stint's vCPU is that pick, and after another it is who it was
  pub picked : next.last ≡ (if next.shared then next.stint.ran else begin.last)

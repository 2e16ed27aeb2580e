-- What a core takes of the changes of a live book, and the plan that is after them.
use Rattle.std.proofs.Common.{◌≡◌, ℕ, suc, ◌+◌, ◌≤◌, List, length, Option, None, Some, inl, inr, sym, subst, ◌∙◌, arith}
use Rattle.std.specs.Prelude.{slice_get}
use Rattle.tab_core.specs.declared.host.Host.{Host}
use Rattle.table_form.specs.Running.Courses.{CourseView, InEachCourse, plan_after}
use Rattle.table_form.specs.Running.Outlines.{OutlineView}
use Rattle.table_form.proofs.CourseLemmas.{in_course}
use Rattle.table_form.specs.Tables.Plans.{PlanView}
use Rattle.slice_table.specs.declared.full_span.FullSpan.{FullSpan}
use Rattle.plan_make.specs.Planned.{IsPlanned}
use Rattle.plan_book.specs.declared.outcome.Outcome.{Outcome}
use Rattle.plan_book.proofs.OneState.{planned_or_unplanned}
use Rattle.live_plan.specs.Actors.{IsLastChange, IsLastPlanned}
use Rattle.live_plan.specs.Books.{LiveView, changes_before}
use Rattle.live_plan.specs.Changes.{HostAfter}
use Rattle.live_plan.specs.Courses.{IsLiveCourse, IsPlanAt}
use Rattle.live_plan.specs.Finding.{IsPlanOf, IsRefusalOf}
use Rattle.live_plan.specs.Inside.Seeking.{IsSliceAt}
use Rattle.live_plan.proofs.ChangesLemmas.{edited_by_unique, host_unique}

-- the host that a planned change makes is after it
plan_stands : (b : LiveView) (k : ℕ) (plan : PlanView) (tables : List (List FullSpan)) (of : IsPlanOf b.host b.changes k plan tables)
    → HostAfter b.host b.changes (suc k) of.edited
plan_stands b k plan tables of =
    let by = of.edited_by in
    (by.before, by.edits, by.after, by.at, inl (record { edited = by.is; plan = plan; planned = of.planned }))

-- a change that was planned is the one that counts from then on
pub last_planned : (b : LiveView) (k : ℕ) (plan : PlanView) (tables : List (List FullSpan))
    → IsPlanOf b.host b.changes k plan tables → IsLastPlanned b (k + 1) k
last_planned b k plan tables of =
    let one : suc k ≡ k + 1 = omega arith in record {
      before = omega arith;
      host = of.edited;
      edited_by = of.edited_by;
      plan = plan;
      planned = of.planned;
      stands = subst (λ (n : ℕ). HostAfter b.host b.changes n of.edited) one (plan_stands b k plan tables of);
    }

-- a host stays where a change is refused
refused_stays : (b : LiveView) (k : ℕ) (outcome : Outcome) (host : Host) → IsRefusalOf b.host b.changes k outcome
    → HostAfter b.host b.changes k host → HostAfter b.host b.changes (k + 1) host
refused_stays b k outcome host of stands =
    let by = of.edited_by in
    let one : suc k ≡ k + 1 = omega arith in
    let same : host ≡ by.before = host_unique b.host b.changes k host by.before stands by.after in
    subst (λ (n : ℕ). HostAfter b.host b.changes n host) one (
      by.before,
      by.edits,
      by.after,
      by.at,
      inr (record {
        host = of.edited;
        edited = by.is;
        outcome = outcome;
        unplanned = of.unplanned;
        stays = same;
      }),
    )

-- the change that counted counts on where a change is refused
pub last_kept : (b : LiveView) (k : ℕ) (outcome : Outcome) (last : Option ℕ) → IsRefusalOf b.host b.changes k outcome
    → IsLastChange b k last → IsLastChange b (k + 1) last
last_kept b k outcome None of is = refused_stays b k outcome b.host of is
last_kept b k outcome (Some i) of is = record {
  before = (let lt = is.before in omega arith);
  host = is.host;
  edited_by = is.edited_by;
  plan = is.plan;
  planned = is.planned;
  stands = refused_stays b k outcome is.host of is.stands;
}

-- the plan that was found for that change is the one after all of them
pub slice_at : (b : LiveView) (k i c : ℕ) (plan : PlanView) (tables : List (List FullSpan)) (table : List FullSpan)
    → IsLastPlanned b k i → IsPlanOf b.host b.changes i plan tables → slice_get tables c ≡ Some table → IsSliceAt b k c table
slice_at b k i c plan tables table last of at =
    let same : last.host ≡ of.edited = edited_by_unique b.host b.changes i last.host of.edited last.edited_by of.edited_by in record {
      plan = plan;
      at = record {
        host = of.edited;
        after = subst (HostAfter b.host b.changes k) same last.stands;
        planned = of.planned;
        rows = of.rows;
      };
      of = of.tables_are.each c table at;
    }

-- it wasn't refused
pub never_refused : (b : LiveView) (k i : ℕ) (outcome : Outcome) → IsLastPlanned b k i → IsRefusalOf b.host b.changes i outcome → ⊥
never_refused b k i outcome last of =
    let same : last.host ≡ of.edited = edited_by_unique b.host b.changes i last.host of.edited last.edited_by of.edited_by in
    planned_or_unplanned of.edited last.plan outcome (subst (λ (h : Host). IsPlanned h last.plan) same last.planned) of.unplanned

-- the plan after the first n events is that of each course of the book
pub course_plan : (b : LiveView) (course : CourseView) (n : ℕ) (plan : PlanView) → IsLiveCourse b course
    → n ≤ length b.outline.ticks → IsPlanAt b (changes_before b n) plan → plan ≡ plan_after course n
course_plan b course n plan of le at = sym (of.after n at.host plan le at.after at.planned)

-- what holds by each course of the book's outline with the plan of a core's table after so many events holds by each of the book's
pub in_live : (b : LiveView) (o : OutlineView) (used c : ℕ) (slices : List FullSpan) (Holds : CourseView → Type 0) → o ≡ b.outline
    → used ≤ length b.outline.ticks → (table : IsSliceAt b (changes_before b used) c slices) → InEachCourse o used table.plan Holds
    → (course : CourseView) → IsLiveCourse b course → Holds course
in_live b o used c slices Holds is le table each course live = in_course course o used table.plan Holds (live.outline ∙ sym is)
    (course_plan b course used table.plan live le table.at) each

-- A stint by the plan that its round uses, where that plan is given beside the course.
use Rattle.std.proofs.Common.{◌≡◌, ℕ, ◌+◌, ◌-◌, ◌*◌, ◌/◌, ◌%◌, ◌<◌, ◌≤◌, min, cond, Bool, true, false, List, Option, sym, ap, ◌∙◌, subst, arith}
use Rattle.tab_core.specs.declared.TheConstants.{ROUND}
use Rattle.tab_core.specs.declared.stint.Stint.{Stint}
use Rattle.table_form.specs.Running.Choice.{IsDispatch, IsChoice, last_shared, runs_other, stint_end}
use Rattle.table_form.specs.Running.Courses.{CourseView, plan_after, runnable_after}
use Rattle.table_form.specs.Tables.Plans.{PlanView}
use Rattle.table_form.specs.Tables.Serves.{owner_at}
use Rattle.table_form.specs.Tables.Spots.{IsSpanEnd}

-- whether somebody else than the owner of the tick ran, by the plan
abbrev pub is_other_by : PlanView → ℕ → ℕ → Option ℕ → Bool
is_other_by plan c from ran = runs_other (owner_at plan.rows c (from % ROUND)) ran

-- a stint is shared by the course exactly where it is by the plan at hand
pub shared_by : (course : CourseView) (c from used : ℕ) (ran : Option ℕ) (plan : PlanView)
    → plan_after course used ≡ plan
    → is_other_by (plan_after course used) c from ran ≡ is_other_by plan c from ran
shared_by course c from used ran plan is = ap (λ (p : PlanView). is_other_by p c from ran) is

-- choice, span and end by the plan at hand make a stint of the course
pub follows_by : (course : CourseView) (c : ℕ) (earlier : List Stint) (s : Stint) (plan : PlanView)
    (span_end : ℕ) → plan_after course s.used ≡ plan
    → IsChoice plan c (s.from % ROUND) (runnable_after course s.seen) (last_shared course c earlier) s.ran
    → IsSpanEnd plan c (s.from % ROUND) span_end
    → s.end ≡ stint_end course s.from span_end (is_other_by plan c s.from s.ran)
    → IsDispatch course c earlier s
follows_by course c earlier s plan span_end is choice span end = record {
  choice = subst (λ (p : PlanView). IsChoice p c (s.from % ROUND) (runnable_after course s.seen)
      (last_shared course c earlier) s.ran) (sym is) choice;
  span_end = span_end;
  span = subst (λ (p : PlanView). IsSpanEnd p c (s.from % ROUND) span_end) (sym is) span;
  end = end ∙ ap (stint_end course s.from span_end) (sym (shared_by course c s.from s.used s.ran plan is));
}

-- a stint has a tick at least, and none beyond its round or its span
pub end_in_round : (b : Bool) (f e span lag quantum : ℕ)
    → e ≡ cond b (min (min (f - f % ROUND + span) (f + lag)) (f + quantum)) (min (f - f % ROUND + span) (f + lag))
    → f % ROUND < span → span ≤ ROUND → 1 ≤ lag → 1 ≤ quantum
    → (f < e) × (e ≤ (f / ROUND + 1) * ROUND) × (e ≤ f - f % ROUND + span)
end_in_round true f e span lag quantum is after within l q = (omega arith, omega arith, omega arith)
end_in_round false f e span lag quantum is after within l q = (omega arith, omega arith, omega arith)

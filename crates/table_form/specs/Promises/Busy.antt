-- At each tick of a stint the core runs whom the rules want, by a count that is recent enough.
use Rattle.std.specs.Prelude.{◌≡◌, ℕ, ◌+◌, ◌*◌, ◌%◌, ◌<◌, ◌≤◌, Bool, true, false, List, Option, MatchOption, length}
use Rattle.tab_core.specs.declared.TheConstants.{ROUND}
use Rattle.tab_core.specs.declared.stint.Stint.{Stint}
use Rattle.table_form.specs.Running.Choice.{IsEligible, owner_runs}
use Rattle.table_form.specs.Running.Courses.{CourseView, plan_after, runnable_after, tick_at}
use Rattle.table_form.specs.Tables.Plans.{PlanView}
use Rattle.table_form.specs.Tables.Serves.{owner_at}
use Rattle.table_form.specs.Running.State.{State, CoreState, IsCore}
use Rattle.table_form.specs.Promises.Together.{Covers}

-- the slot's owner runs if it is runnable; else somebody eligible runs, and the core idles only
-- where nobody is
pub record IsBusyAt (plan : PlanView) (c place : ℕ) (runnable : List Bool) (ran : Option ℕ) : Type 0 where
  pub slot : owner_runs (owner_at plan.rows c place) runnable ≡ true → ran ≡ owner_at plan.rows c place
  pub filled : owner_runs (owner_at plan.rows c place) runnable ≡ false →
      MatchOption ran ((v : ℕ) → IsEligible plan c place runnable v → ⊥)
      (λ v. IsEligible plan c place runnable v)

-- each tick below a core's clock is in one stint; there the core is busy by the round's plan, and
-- by a seen count that has each event of two lags before
pub record IsBusy (course : CourseView) (s : State) : Type 0 where
  pub covered : (c x : ℕ) (core : CoreState) → IsCore s c core → x < core.clock
      → (st : Stint) × Covers core x st
  pub one : (c x : ℕ) (core : CoreState) (st su : Stint) → IsCore s c core → Covers core x st
      → Covers core x su → st ≡ su
  pub busy : (c x : ℕ) (core : CoreState) (st : Stint) → IsCore s c core → Covers core x st →
      IsBusyAt (plan_after course st.used) c (x % ROUND) (runnable_after course st.seen) st.ran
  pub fresh : (c x i : ℕ) (core : CoreState) (st : Stint) → IsCore s c core → Covers core x st
      → i < length course.ticks →
      tick_at course i + 2 * course.lag ≤ x → i < st.seen

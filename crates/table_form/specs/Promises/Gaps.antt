-- How long a vCPU may wait between the ticks that it is offered.
-- Source: the promise of a latency of the Tableau scheduler (M. Vanga, A. Gujarati, B. B. Brandenburg,
-- EuroSys 2018), here across rounds whose plans may differ.
use Rattle.std.specs.Option.{IsSome}
use Rattle.std.specs.Prelude.{◌≡◌, ℕ, suc, ◌+◌, ◌-◌, ◌/◌, ◌≤◌, false, List, Option, Some}
use Rattle.tab_core.specs.Budgets.{slack_of}
use Rattle.tab_core.specs.declared.TheConstants.{ROUND}
use Rattle.tab_core.specs.declared.periodic.Periodic.{Periodic}
use Rattle.table_form.specs.Running.Courses.{CourseView}
use Rattle.table_form.specs.Promises.Offered.{is_offered, task_in}
use Rattle.table_form.specs.Running.State.{State}

-- the vCPU's task at a tick: that in the plan of the tick's round, if it has one
abbrev pub task_at : CourseView → List ℕ → ℕ → ℕ → Option Periodic
task_at course decided v x = task_in course decided (x / ROUND) v

-- from the first to the last of these ticks the vCPU is offered nothing, though it has a task at each
pub record IsGap (course : CourseView) (decided : List ℕ) (v first last : ℕ) : Type 0 where
  pub order : first ≤ last
  pub has_task : (x : ℕ) → first ≤ x → x ≤ last → IsSome (task_at course decided v x)
  pub unoffered : (x : ℕ) → first ≤ x → x ≤ last → is_offered course decided v x ≡ false

-- no gap has more ticks than the budgets at its first and its last tick leave out of a period together
abbrev pub HasShortGaps : CourseView → State → Type 0
HasShortGaps course s = (v first last : ℕ) (before after : Periodic) → IsGap course s.decided v first last
    → task_at course s.decided v first ≡ Some before → task_at course s.decided v last ≡ Some after
    → suc last - first ≤ slack_of before + slack_of after

-- Each vCPU is offered its cost in each of its periods.
use Rattle.std.proofs.Common.{◌≡◌, ℕ, suc, ◌+◌, ◌*◌, ◌/◌, ◌<◌, ◌≤◌, Option, Some, None, refl, arith}
use Rattle.std.specs.Prelude.{slice_get}
use Rattle.std.proofs.Math.Nat.{mul-le-mul_right, suc-mul}
use Rattle.tab_core.specs.declared.TheConstants.{ROUND}
use Rattle.tab_core.specs.declared.periodic.Periodic.{Periodic}
use Rattle.tab_core.proofs.Periods.{period_facts}
use Rattle.table_form.specs.Running.Courses.{CourseView, IsCourse, plan_after}
use Rattle.table_form.specs.Promises.Offered.{task_by, IsServed}
use Rattle.table_form.specs.Running.State.{State}
use Rattle.table_form.specs.Tables.Serves.{supply}
use Rattle.table_form.proofs.SpotLemmas.{flat_some}
use Rattle.run_promises.proofs.CourseLemmas.{apart_after, serves_after}
use Rattle.run_promises.proofs.OfferedLemmas.{offers_supply}

-- the count of a round in which the vCPU has a task
pub task_found : (course : CourseView) (o : Option ℕ) (v : ℕ) (task : Periodic)
    → task_by course o v ≡ Some task
    → (count : ℕ) × (o ≡ Some count)
    × (slice_get (plan_after course count).tasks v ≡ Some (Some task))
task_found course None v task h = absurd cc
task_found course (Some count) v task h =
    (count, refl, flat_some (slice_get (plan_after course count).tasks v) task h)

-- whole periods fit the round
pub period_fits : (t m k : ℕ) → t * m ≡ ROUND → k < m → k * t + t ≤ ROUND
period_fits t m k whole lt =
    (let le : (suc k) * t ≤ m * t = mul-le-mul_right t (omega arith) in let more = suc-mul k t in omega arith)

-- the promise: the plan gives the cost in cells, and each cell is an offer
pub served : (course : CourseView) (s : State) → IsCourse course → IsServed course s
served course s ok = λ r v k task has lt.
    let found = task_found course (slice_get s.decided r) v task has in
    let facts = period_facts task.period task.listed in
    let fits = period_fits task.period (ROUND / task.period) k facts.whole lt in
    let enough = serves_after course ok found.0 v task found.2 k lt in
    let most = offers_supply course s.decided v r found.0 (k * task.period) task.period found.1
    (apart_after course ok found.0) fits in
    let end : (k + 1) * task.period ≡ k * task.period + task.period = grind arith in
    let cells : task.cost ≤ supply v (plan_after course found.0).rows (k * task.period)
    (k * task.period + task.period) = rw (← end) enough in
    omega arith

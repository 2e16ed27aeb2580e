-- At which ticks a vCPU runs, and that a capped one runs no more than its cost.
-- Source: the rules of this project. The cap is that of Xen's credit scheduler, the most of a processor that a
-- domain gets even where the processor idles, here as the cost in each period of the reservation.
use Rattle.std.specs.Prelude.{◌≡◌, ℕ, zero, suc, ◌+◌, ◌*◌, ◌/◌, ◌<◌, ◌≤◌, ◌&&◌, Bool, false, List, Option, Some, None, IsTrue, nat_le, nat_lt, if◌then◌else◌, slice_get}
use Rattle.std.specs.List.{list_any}
use Rattle.tab_core.specs.VcpuSets.{has_vcpu}
use Rattle.tab_core.specs.declared.TheConstants.{ROUND}
use Rattle.tab_core.specs.declared.periodic.Periodic.{Periodic}
use Rattle.tab_core.specs.declared.stint.Stint.{Stint}
use Rattle.table_form.specs.Running.Courses.{CourseView, plan_after}
use Rattle.table_form.specs.Promises.Offered.{task_in}
use Rattle.table_form.specs.Running.State.{State, CoreState}
use Rattle.table_form.specs.Tables.Serves.{is_cell_of}

-- the stint covers the tick and ran the vCPU
abbrev pub runs_in : ℕ → ℕ → Stint → Bool
runs_in v x s = nat_le s.from x && (nat_lt x s.end && is_cell_of v s.ran)

-- the vCPU runs at the tick, on some core
abbrev pub runs_at : State → ℕ → ℕ → Bool
runs_at s v x = list_any (λ (core : CoreState). list_any (runs_in v x) core.stints) s.cores

-- at how many of the n ticks from `from` on the vCPU runs
unfoldable pub ticks_run : State → ℕ → ℕ → ℕ → ℕ
ticks_run s v from zero = 0
ticks_run s v from (suc n) = ticks_run s v from n + (if runs_at s v (from + n) then 1 else 0)

-- the vCPU is capped in the plan of a count, if there is one
abbrev pub capped_by : CourseView → Option ℕ → ℕ → Bool
capped_by course None v = false
capped_by course (Some count) v = has_vcpu (plan_after course count).capped v

-- the vCPU is capped in the plan of an entered round
abbrev pub is_capped_in : CourseView → List ℕ → ℕ → ℕ → Bool
is_capped_in course decided r v = capped_by course (slice_get decided r) v

-- in each of its periods of each entered round a capped vCPU runs at no more ticks than its cost
abbrev pub KeepsCaps : CourseView → State → Type 0
KeepsCaps course s = (r v k : ℕ) (task : Periodic) → IsTrue (is_capped_in course s.decided r v)
    → task_in course s.decided r v ≡ Some task → k < ROUND / task.period →
    ticks_run s v (r * ROUND + k * task.period) task.period ≤ task.cost

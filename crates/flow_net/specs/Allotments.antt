-- Allotments: how many ticks each vCPU gets in each interval between neighbouring marks.
-- Source: the flow formulation of W. A. Horn, "Some simple scheduling algorithms", Naval Research
-- Logistics Quarterly 21, 1974, on the periodic tasks of this project.
use Rattle.std.specs.Prelude.{◌≡◌, ℕ, ◌+◌, ◌-◌, ◌*◌, ◌/◌, ◌<◌, ◌≤◌, List, Option, Some, None, length, map, slice_index, sum_by}
use Rattle.tab_core.specs.declared.TheConstants.{ROUND}
use Rattle.tab_core.specs.declared.periodic.Periodic.{Periodic}
use Rattle.flow_net.specs.Load.{Load, span, jobs, given, used}
use Rattle.flow_net.specs.Rows.{row_at, ticks_at}
use Rattle.flow_net.specs.Flows.{load_of, flow_of}

-- what a vCPU is due in each of its periods; one that isn't admitted is due nothing in a round
abbrev pub cost_of_task : Option Periodic → ℕ
cost_of_task None = 0
cost_of_task (Some task) = task.cost

-- a vCPU's period; of one that isn't admitted the round
abbrev pub period_of_task : Option Periodic → ℕ
period_of_task None = ROUND
period_of_task (Some task) = task.period

-- what a vCPU is due in a round
abbrev pub demand_of_task : Option Periodic → ℕ
demand_of_task task = cost_of_task task * (ROUND / period_of_task task)

-- what all are due in a round
abbrev pub demands : List (Option Periodic) → ℕ
demands tasks = sum_by demand_of_task tasks

-- a multiple of some vCPU's period
pub record IsMultiple (periods : List ℕ) (x : ℕ) : Type 0 where
  pub vcpu : ℕ
  pub listed : vcpu < length periods
  pub times : ℕ
  pub is : x ≡ times * slice_index periods vcpu

-- the marks: 0, the round, and all multiples of the periods between them, rising
pub record AreMarks (periods marks : List ℕ) : Type 0 where
  pub some : 1 < length marks
  pub first : slice_index marks 0 ≡ 0
  pub last : slice_index marks (length marks - 1) ≡ ROUND
  pub rise : (i : ℕ) → i + 1 < length marks → slice_index marks i < slice_index marks (i + 1)
  pub each : (i : ℕ) → 0 < i → i + 1 < length marks → IsMultiple periods (slice_index marks i)
  pub inside : (i v k : ℕ) → i + 1 < length marks → v < length periods
      → slice_index marks i < k * slice_index periods v
      → slice_index marks (i + 1) ≤ k * slice_index periods v

-- the load of tasks on cores
abbrev pub load_of_tasks : List (Option Periodic) → List ℕ → ℕ → Load
load_of_tasks tasks marks cores = load_of (map cost_of_task tasks) (map period_of_task tasks) marks cores

-- marks, and for each interval one list of ticks by vCPU number
pub record AllotmentView : Type 0 where
  pub marks : List ℕ
  pub ticks : List (List ℕ)

-- each job gets its cost inside its period, no vCPU gets more ticks than an interval has, and all of
-- them together no more than the cores offer
pub record IsAllotment (tasks : List (Option Periodic)) (cores : ℕ) (a : AllotmentView) : Type 0 where
  pub marks : AreMarks (map period_of_task tasks) a.marks
  pub rows : length a.ticks ≡ length a.marks - 1
  pub widths : (i : ℕ) → i < length a.ticks → length (row_at a.ticks i) ≡ length tasks
  pub short : (v i : ℕ) → v < length tasks → i < length a.ticks
      → ticks_at a.ticks i v ≤ span (load_of_tasks tasks a.marks cores) i
  pub serves : (v k : ℕ) → v < length tasks → k < jobs (load_of_tasks tasks a.marks cores) v
      → given (load_of_tasks tasks a.marks cores) (flow_of a.ticks) v k
      ≡ (load_of_tasks tasks a.marks cores).cost v
  pub fits : (i : ℕ) → i < length a.ticks
      → used (load_of_tasks tasks a.marks cores) (flow_of a.ticks) i
      ≤ cores * span (load_of_tasks tasks a.marks cores) i

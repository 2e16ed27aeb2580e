-- Counters of what each vCPU gets in each of its periods: for each vCPU as many as a round has
-- periods at most.
use Rattle.std.specs.Prelude.{◌≡◌, ℕ, ◌+◌, ◌-◌, ◌*◌, ◌/◌, ◌<◌, ◌≤◌, min, max, List, Option, Some, None, length, slice_get, slice_index, if◌then◌else◌}
use Rattle.tab_core.specs.declared.TheConstants.{MAX_VCPUS, ROUND}
use Rattle.tab_core.specs.declared.periodic.Periodic.{Periodic}
use Rattle.table_form.specs.Tables.Rows.{Row}
use Rattle.table_form.specs.Tables.Serves.{is_cell_of, supply}
use Rattle.table_check.specs.declared.counters.TheConstants.{MAX_PERIODS}

-- the counter of the vCPU's period
abbrev pub count_at : List ℕ → ℕ → ℕ → ℕ
count_at counters v k = slice_index counters (v * MAX_PERIODS + k)

-- the vCPU has a task of this period, and this many of its periods come before the end of the round
pub record IsPeriodOf (tasks : List (Option Periodic)) (v k period : ℕ) : Type 0 where
  pub task : Periodic
  pub at : slice_get tasks v ≡ Some (Some task)
  pub period_is : period ≡ task.period
  pub in_round : k < ROUND / period

-- each counter of a task's period has grown by so much
abbrev pub GrowBy : List (Option Periodic) → (ℕ → ℕ → ℕ → ℕ) → List ℕ → List ℕ → Type 0
GrowBy tasks more old new = (v k period : ℕ) → IsPeriodOf tasks v k period
    → count_at new v k ≡ count_at old v k + more v (k * period) ((k + 1) * period)

-- how many ticks of [from, to) lie in [begin, end)
abbrev pub ticks_shared : ℕ → ℕ → ℕ → ℕ → ℕ
ticks_shared from to begin end = min to end - max from begin

-- how many ticks the owner's [from, to) gives the vCPU in [begin, end)
abbrev pub ticks_given : Option ℕ → ℕ → ℕ → ℕ → ℕ → ℕ → ℕ
ticks_given owner from to v begin end = if is_cell_of v owner then ticks_shared from to begin end else 0

-- the counters have what the rows give each task's periods
abbrev pub CountSupply : List (Option Periodic) → List Row → List ℕ → Type 0
CountSupply tasks rows counters = (v k period : ℕ) → IsPeriodOf tasks v k period
    → count_at counters v k ≡ supply v rows (k * period) ((k + 1) * period)

-- no counter of a task's period is greater
abbrev pub AreAtMost : List (Option Periodic) → ℕ → List ℕ → Type 0
AreAtMost tasks most counters = (v k period : ℕ) → IsPeriodOf tasks v k period → count_at counters v k ≤ most

-- the first period of the vCPU whose counter is below the cost, or that there is none
abbrev pub IsFirstLow : List ℕ → ℕ → Periodic → Option ℕ → Type 0
IsFirstLow counters v task None = (k : ℕ) → k < ROUND / task.period → task.cost ≤ count_at counters v k
IsFirstLow counters v task (Some k) =
    (k < ROUND / task.period) × (count_at counters v k < task.cost) ×
    ((j : ℕ) → j < k → task.cost ≤ count_at counters v j)

-- each counter of the vCPU's periods is its cost
abbrev pub HasItsCosts : List ℕ → ℕ → Periodic → Type 0
HasItsCosts counters v task = (k : ℕ) → k < ROUND / task.period → count_at counters v k ≡ task.cost

-- a counter for each period of each of few vCPUs, none above what so many rows can give
pub record CountersHaveRoom (tasks : List (Option Periodic)) (count : ℕ) (counters : List ℕ) : Type 0 where
  pub few : length tasks ≤ MAX_VCPUS
  pub size : length counters ≡ length tasks * MAX_PERIODS
  pub most : AreAtMost tasks (count * ROUND) counters

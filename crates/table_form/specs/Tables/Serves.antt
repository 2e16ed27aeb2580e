-- What a plan's rows must keep: each vCPU gets its cost in each of its periods, and is on one core at a time.
-- Source: the two promises of a reservation in M. Vanga, A. Gujarati, B. B. Brandenburg, "Tableau:
-- a high-throughput and predictable VM scheduler for high-density workloads", EuroSys 2018, in
-- ticks and periods of this project.
use Rattle.std.specs.Prelude.{◌≡◌, ℕ, ◌+◌, ◌-◌, ◌*◌, ◌/◌, ◌<◌, ◌≤◌, ◌==◌, Bool, false, true, List, Option, Some, None, take, drop, count_by, slice_get, IsTrue}
use Rattle.std.specs.List.{sum_by}
use Rattle.tab_core.specs.VcpuSets.{has_vcpu}
use Rattle.tab_core.specs.declared.TheConstants.{ROUND}
use Rattle.tab_core.specs.declared.periodic.Periodic.{Periodic}
use Rattle.table_form.specs.Tables.Rows.{Row}

-- the cell is the vCPU's
abbrev pub is_cell_of : ℕ → Option ℕ → Bool
is_cell_of v None = false
is_cell_of v (Some w) = v == w

-- how many of the row's cells from `from` up to `to` are the vCPU's
unfoldable pub cells_within : ℕ → Row → ℕ → ℕ → ℕ
cells_within v row from to = count_by (λ cell. is_cell_of v cell) (take (to - from) (drop from row))

-- the vCPU's cells over all rows
unfoldable pub supply : ℕ → List Row → ℕ → ℕ → ℕ
supply v rows from to = sum_by (λ row. cells_within v row from to) rows

-- each vCPU that has a task gets its cost in each of its periods
abbrev pub Serves : List (Option Periodic) → List Row → Type 0
Serves tasks rows = (v : ℕ) (task : Periodic) → slice_get tasks v ≡ Some (Some task) → (k : ℕ)
    → k < ROUND / task.period →
    task.cost ≤ supply v rows (k * task.period) ((k + 1) * task.period)

-- each of these vCPUs that has a task gets exactly its cost in each of its periods
abbrev pub ServesExactly : List (Option Periodic) → List Bool → List Row → Type 0
ServesExactly tasks capped rows = (v : ℕ) (task : Periodic) → slice_get tasks v ≡ Some (Some task)
    → IsTrue (has_vcpu capped v) → (k : ℕ) → k < ROUND / task.period →
    supply v rows (k * task.period) ((k + 1) * task.period) ≡ task.cost

-- an entry that may be missing and may be none, as one that may be none
abbrev pub flat : {T : Type 0} → Option (Option T) → Option T
flat None = None
flat (Some o) = o

-- the cell of a row at a place, or none where there is no such row
abbrev pub cell_of : Option Row → ℕ → Option ℕ
cell_of None place = None
cell_of (Some row) place = flat (slice_get row place)

-- the owner of a place of a core's row, or none
abbrev pub owner_at : List Row → ℕ → ℕ → Option ℕ
owner_at rows c place = cell_of (slice_get rows c) place

-- no vCPU is at one place in two rows
abbrev pub Apart : List Row → Type 0
Apart rows = (v place c d : ℕ) → owner_at rows c place ≡ Some v → owner_at rows d place ≡ Some v → c ≡ d

-- the vCPU is admitted
abbrev pub has_task : List (Option Periodic) → ℕ → Bool
has_task tasks v = is_there (slice_get tasks v)
  where
    is_there : Option (Option Periodic) → Bool
    is_there None = false
    is_there (Some None) = false
    is_there (Some (Some task)) = true

-- no cell is of a vCPU without a task
abbrev pub OwnersHaveTasks : List (Option Periodic) → List Row → Type 0
OwnersHaveTasks tasks rows = (v place c : ℕ) → owner_at rows c place ≡ Some v → has_task tasks v ≡ true

-- The row of a core by earliest deadline first (EDF), tick by tick.
-- Source: the deadline-driven algorithm of C. L. Liu and J. W. Layland, Journal of the ACM 20,
-- 1973; the tie, to the lower vCPU number, is this project's own.
use Rattle.std.specs.Prelude.{ℕ, zero, suc, ◌==◌, ◌&&◌, ◌||◌, Bool, false, nat_le, nat_lt, if◌then◌else◌, List, [], ◌∷◌, ◌++◌, Option, Some, None, map, count_by}
use Rattle.tab_core.specs.declared.TheConstants.{ROUND}
use Rattle.table_form.specs.Planning.Jobs.{Job}

-- a job is known by its vCPU and its deadline
abbrev pub is_same_job : Job → Job → Bool
is_same_job i j = (i.vcpu == j.vcpu) && (i.deadline == j.deadline)

-- the cell runs this job
abbrev pub is_run_of : Job → Option Job → Bool
is_run_of j None = false
is_run_of j (Some i) = is_same_job i j

-- how many of the cells the job has
unfoldable pub cells_of : Job → List (Option Job) → ℕ
cells_of j cells = count_by (λ cell. is_run_of j cell) cells

-- at this tick, after these cells, the job's window has begun and it has had fewer ticks than its
-- cost
abbrev pub is_pending : List (Option Job) → ℕ → Job → Bool
is_pending cells tick j = nat_le j.release tick && nat_lt (cells_of j cells) j.cost

-- an earlier deadline comes first, and of equal ones the lower vCPU
abbrev pub comes_before : Job → Job → Bool
comes_before i j = nat_lt i.deadline j.deadline || ((i.deadline == j.deadline) && nat_lt i.vcpu j.vcpu)

-- of two jobs the one that comes first, where the second may be missing
abbrev pub sooner : Job → Option Job → Job
sooner j None = j
sooner j (Some i) = if comes_before i j then i else j

-- the pending job of earliest deadline
unfoldable pub first_pending : List (Option Job) → ℕ → List Job → Option Job
first_pending cells tick [] = None
first_pending cells tick (j ∷ js) =
    if is_pending cells tick j then Some (sooner j (first_pending cells tick js))
    else first_pending cells tick js

-- whom the first n ticks go to, earliest deadline first
unfoldable pub edf_cells : List Job → ℕ → List (Option Job)
edf_cells jobs zero = []
edf_cells jobs (suc n) = edf_cells jobs n ++ first_pending (edf_cells jobs n) n jobs ∷ []

-- the vCPU of a job that a cell runs, or none where the cell is idle
abbrev pub owner_of : Option Job → Option ℕ
owner_of None = None
owner_of (Some j) = Some j.vcpu

-- the row of a core by earliest deadline first
unfoldable pub edf_row : List Job → List (Option ℕ)
edf_row jobs = map owner_of (edf_cells jobs ROUND)

-- Counters that show whether capped vCPUs get exactly their costs.
use Rattle.std.proofs.Common.{◌≡◌, ℕ, ◌<◌, ◌≤◌, IsTrue, Bool, true, false, List, length, slice_get, Option, Some, None, refl, subst, sym, ◌∙◌, arith}
use Rattle.std.proofs.lemmas.Bool.{false≢true}
use Rattle.std.proofs.lemmas.Option.{same_Some, slice_get_within}
use Rattle.tab_core.specs.VcpuSets.{has_vcpu}
use Rattle.tab_core.specs.declared.periodic.Periodic.{Periodic}
use Rattle.table_form.specs.Tables.Rows.{Row}
use Rattle.table_form.specs.Tables.Serves.{ServesExactly}
use Rattle.table_check.specs.Inside.Counters.{CountSupply, HasItsCosts}

-- the vCPU has exactly its costs by the counters, if it is capped and has a task
pub IsExactBy : List (Option Periodic) → List Bool → List ℕ → ℕ → Type 0
IsExactBy tasks capped counters v = (task : Periodic) → slice_get tasks v ≡ Some (Some task)
    → IsTrue (has_vcpu capped v) → HasItsCosts counters v task

-- a vCPU whose counters are its costs has exactly these
pub exact_if_costs : (tasks : List (Option Periodic)) (capped : List Bool) (counters : List ℕ) (v : ℕ)
    (task : Periodic) → slice_get tasks v ≡ Some (Some task) → HasItsCosts counters v task
    → IsExactBy tasks capped counters v
unfolding IsExactBy
exact_if_costs tasks capped counters v task at has other other_at is =
    subst (HasItsCosts counters v) (same_Some {A = Periodic} task other
    (same_Some {A = Option Periodic} (Some task) (Some other) (sym at ∙ other_at))) has

-- a vCPU without a task has nothing to keep
pub exact_if_no_task : (tasks : List (Option Periodic)) (capped : List Bool) (counters : List ℕ) (v : ℕ)
    → slice_get tasks v ≡ Some None → IsExactBy tasks capped counters v
unfolding IsExactBy
exact_if_no_task tasks capped counters v at task task_at is =
    absurd (let both : Some None ≡ Some (Some task) = sym at ∙ task_at in cc)

-- a vCPU that isn't capped has nothing to keep
pub exact_if_uncapped : (tasks : List (Option Periodic)) (capped : List Bool) (counters : List ℕ) (v : ℕ)
    → has_vcpu capped v ≡ false → IsExactBy tasks capped counters v
unfolding IsExactBy
exact_if_uncapped tasks capped counters v not task at is = absurd (false≢true (sym not ∙ is))

-- rows whose counters are exact for each vCPU serve the capped ones exactly
pub serves_exactly_if_all : (tasks : List (Option Periodic)) (capped : List Bool) (rows : List Row)
    (counters : List ℕ) (count : ℕ) → length tasks ≤ count → CountSupply tasks rows counters
    → ((w : ℕ) → w < count → IsExactBy tasks capped counters w) → ServesExactly tasks capped rows
unfolding IsExactBy
serves_exactly_if_all tasks capped rows counters count all counted exact v task at is k lt =
    let within = slice_get_within tasks v (Some task) at in
    let supply = counted v k task.period (record { task = task; at = at; period_is = refl; in_round = lt }) in
    sym supply ∙ exact v (omega arith) task at is k lt

-- rows that serve the capped vCPUs exactly give one of them its costs by the counters
pub costs_if_exact : (tasks : List (Option Periodic)) (capped : List Bool) (rows : List Row)
    (counters : List ℕ) (v : ℕ) (task : Periodic) → slice_get tasks v ≡ Some (Some task)
    → has_vcpu capped v ≡ true → CountSupply tasks rows counters → ServesExactly tasks capped rows
    → HasItsCosts counters v task
costs_if_exact tasks capped rows counters v task at is counted exact k lt =
    counted v k task.period (record { task = task; at = at; period_is = refl; in_round = lt })
    ∙ exact v task at is k lt

-- The budgets of some of a host's vCPUs.
use Rattle.std.specs.Prelude.{◌≡◌, ℕ, List, Option, Some, slice_get}
use Rattle.tab_core.specs.declared.periodic.Periodic.{Periodic}
use Rattle.tab_core.specs.declared.vcpu.Vcpu.{Vcpu}
use Rattle.period_choice.specs.Tasks.{IsTaskOf}

-- each vCPU that has an entry has its task there
abbrev pub AreTasksSoFar : List Vcpu → ℕ → List (Option Periodic) → Type 0
AreTasksSoFar vcpus tick tasks = (number : ℕ) (vcpu : Vcpu) (task : Option Periodic)
    → slice_get vcpus number ≡ Some vcpu → slice_get tasks number ≡ Some task
    → IsTaskOf vcpu.reservation tick task

-- The budgets of a host's vCPUs, by vCPU number, with the host's tick.
use Rattle.std.specs.Prelude.{◌≡◌, ℕ, ◌<◌, IfSome, IsSomeAnd, List, length, Option, None, Some, slice_get}
use Rattle.tab_core.specs.declared.host.Host.{Host}
use Rattle.tab_core.specs.declared.periodic.Periodic.{Periodic}
use Rattle.tab_core.specs.declared.reservation.Reservation.{Reservation}
use Rattle.tab_core.specs.declared.vcpu.Vcpu.{Vcpu}
use Rattle.period_choice.specs.Choice.{HasPeriod, IsChosen}

-- the chosen budget of a reservation, or none where there is no reservation
abbrev pub IsTaskOf : Option Reservation → ℕ → Option Periodic → Type 0
IsTaskOf None tick_ns task = task ≡ None
IsTaskOf (Some r) tick_ns task = IsSomeAnd task (IsChosen r tick_ns)

-- each vCPU of the host has its task, at its number
pub record AreTasksOf (host : Host) (tasks : List (Option Periodic)) : Type 0 where
  pub as_many : length tasks ≡ length host.vcpus
  pub each : (number : ℕ) (vcpu : Vcpu) (task : Option Periodic)
      → slice_get host.vcpus number ≡ Some vcpu → slice_get tasks number ≡ Some task
      → IsTaskOf vcpu.reservation host.tick_ns task

-- a vCPU has this reservation, and no period is admissible for it
abbrev pub LacksPeriod : Option Reservation → ℕ → Type 0
LacksPeriod reservation tick_ns = IsSomeAnd reservation (λ r. ¬ (HasPeriod r tick_ns))

-- the host's vCPU is admitted and has no admissible period, and each admitted one of a lower number has
pub record IsFirstWithoutPeriod (host : Host) (number : ℕ) : Type 0 where
  pub vcpu : Vcpu
  pub at : slice_get host.vcpus number ≡ Some vcpu
  pub lacks : LacksPeriod vcpu.reservation host.tick_ns
  pub lowest : (lower : ℕ) (other : Vcpu) → lower < number → slice_get host.vcpus lower ≡ Some other
      → IfSome other.reservation (λ r. HasPeriod r host.tick_ns)

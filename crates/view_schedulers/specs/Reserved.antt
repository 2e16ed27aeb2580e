-- What the host beside a plan says of a vCPU of some name.
-- Source: the rules of this project.
use Rattle.std.specs.Prelude.{ℕ, ◌+◌, ◌-◌, ◌*◌, ◌&&◌, ◌||◌, nat_le, not, Bool, false, if◌then◌else◌, List, [], ◌∷◌, Option, None}
use Rattle.std.specs.Str.{bytes_eq}
use Rattle.tab_core.specs.declared.TheConstants.{WHOLE_PPM}
use Rattle.tab_core.specs.declared.reservation.Reservation.{Reservation}
use Rattle.tab_core.specs.declared.vcpu.Vcpu.{Vcpu}
use Rattle.view_schedulers.specs.declared.scheduler.Scheduler.{Scheduler}
use Rattle.view_schedulers.specs.Budgets.{bounds_wait, unit_of}

-- what the host's vCPU of this name has reserved, if one of this name is admitted
abbrev pub reserved_of : List Vcpu → List ℕ → Option Reservation
reserved_of [] name = None
reserved_of (vcpu ∷ vcpus) name = if bytes_eq vcpu.name name then vcpu.reservation else reserved_of vcpus name

-- the host's vCPU of this name is capped
abbrev pub is_capped : List Vcpu → List ℕ → Bool
is_capped [] name = false
is_capped (vcpu ∷ vcpus) name = if bytes_eq vcpu.name name then vcpu.capped else is_capped vcpus name

-- a budget in each period, in the scheduler's unit of time, keeps a latency in nanoseconds: what it leaves of
-- two periods is within it, where the scheduler bounds waits
abbrev pub is_wait_kept : Scheduler → ℕ → ℕ → ℕ → Bool
is_wait_kept s period budget latency = not (bounds_wait s)
    || nat_le (unit_of s * ((period - budget) + (period - budget))) latency

-- a budget in each period, in the scheduler's unit of time, keeps a reservation: its share, and its latency
-- where the scheduler bounds waits
abbrev pub is_reservation_kept : Scheduler → ℕ → ℕ → Reservation → Bool
is_reservation_kept s period budget r = nat_le (r.share_ppm * period) (WHOLE_PPM * budget)
    && is_wait_kept s period budget r.latency_ns

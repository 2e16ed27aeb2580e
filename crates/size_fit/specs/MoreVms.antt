-- A host with more VMs of a size than it has.
-- Source: the rule is this project's own.
use Rattle.std.specs.Prelude.{◌≡◌, ℕ, ◌*◌, ◌++◌, Bool, true, map, replicate, Option, Some}
use Rattle.tab_core.specs.declared.host.Host.{Host}
use Rattle.tab_core.specs.declared.reservation.Reservation.{Reservation}
use Rattle.tab_core.specs.declared.vcpu.Vcpu.{Vcpu}
use Rattle.sizes_doc.specs.declared.size.Size.{Size}

-- all of a vCPU but its name
pub record Nameless : Type 0 where
  pub reservation : Option Reservation
  pub runnable : Bool
  pub capped : Bool

-- all of this vCPU but its name
abbrev pub nameless : Vcpu → Nameless
nameless vcpu = record { reservation = vcpu.reservation; runnable = vcpu.runnable; capped = vcpu.capped }

-- a vCPU of the size
abbrev pub of_size : Size → Nameless
of_size size = record { reservation = Some size.reservation; runnable = true; capped = size.capped }

-- after the host's vCPUs come those of so many more VMs of the size. The names may be any, since no plan
-- depends on them
pub record HasMoreVms (host : Host) (size : Size) (count : ℕ) (other : Host) : Type 0 where
  pub tick_ns : other.tick_ns ≡ host.tick_ns
  pub cores : other.cores ≡ host.cores
  pub lag : other.lag ≡ host.lag
  pub sliver : other.sliver ≡ host.sliver
  pub quantum : other.quantum ≡ host.quantum
  pub vcpus : map nameless other.vcpus
      ≡ map nameless host.vcpus ++ replicate (count * size.vcpus) (of_size size)

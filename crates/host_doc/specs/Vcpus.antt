-- The vCPUs that the members of `vcpu` stand for.
use Rattle.std.specs.Prelude.{◌≡◌, ℕ, true, false, List, length, slice_get, Option, Some, None, Ok}
use Rattle.tab_core.specs.declared.reservation.Reservation.{Reservation}
use Rattle.tab_core.specs.declared.vcpu.Vcpu.{Vcpu}
use Rattle.toml.specs.Data.{table, get_item, Items, Members}
use Rattle.host_doc.specs.Array.{count_of}
use Rattle.host_doc.specs.KeyTable.{admitted_of, capped_of, latency_of, name_of, runnable_of, share_of}

-- the vCPU has this reservation: none where it isn't admitted
abbrev pub IsReservationOf : ℕ → Members → Option Reservation → Type 0
IsReservationOf number members None = admitted_of number members ≡ Ok false
IsReservationOf number members (Some reservation) =
    (admitted_of number members ≡ Ok true)
    × (share_of number members ≡ Ok reservation.share_ppm)
    × (latency_of number members ≡ Ok reservation.latency_ns)

-- the member of a number stands for this vCPU
pub record IsVcpuOf (number : ℕ) (members : Members) (vcpu : Vcpu) : Type 0 where
  pub name : name_of number members ≡ Ok vcpu.name
  pub reservation : IsReservationOf number members vcpu.reservation
  pub runnable : runnable_of number members ≡ Ok vcpu.runnable
  pub capped : capped_of number members ≡ Ok vcpu.capped

-- each vCPU is the one that the member of its number stands for
abbrev pub EachIsVcpuOf : Items → List Vcpu → Type 0
EachIsVcpuOf items vcpus =
    (number : ℕ) (members : Members) (vcpu : Vcpu) → get_item number items ≡ Some (table members)
    → slice_get vcpus number ≡ Some vcpu
    → IsVcpuOf number members vcpu

-- the members stand for these vCPUs, by number
pub record AreVcpusOf (items : Items) (vcpus : List Vcpu) : Type 0 where
  pub count : length vcpus ≡ count_of items
  pub each : EachIsVcpuOf items vcpus

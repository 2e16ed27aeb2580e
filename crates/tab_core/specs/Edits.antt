-- What edits make of a host's reservations.
-- Source: the rules of this project; the changes of reservations at run time of M. Vanga, A.
-- Gujarati, B. B. Brandenburg, "Tableau: a high-throughput and predictable VM scheduler for
-- high-density workloads", EuroSys 2018.
use Rattle.std.specs.Prelude.{◌≡◌, ℕ, ◌<◌, List, [], ◌∷◌, All, Option, None, Some, map, slice_set}
use Rattle.tab_core.specs.declared.edit.Edit.{Edit}
use Rattle.tab_core.specs.declared.edit.Edit.TheVariants.{Set, Leave}
use Rattle.tab_core.specs.declared.host.Host.{Host}
use Rattle.tab_core.specs.declared.reservation.Reservation.{Reservation}
use Rattle.tab_core.specs.declared.vcpu.Vcpu.{Vcpu}

-- the vCPU whose reservation the edit changes
abbrev pub vcpu_of : Edit → ℕ
vcpu_of (Set vcpu reservation) = vcpu
vcpu_of (Leave vcpu) = vcpu

-- each edit is of one of so many vCPUs
abbrev pub AreEditsOf : ℕ → List Edit → Type 0
AreEditsOf count edits = All (λ edit. vcpu_of edit < count) edits

-- what the edit makes of the reservations by vCPU number
abbrev pub edited_once : List (Option Reservation) → Edit → List (Option Reservation)
edited_once reservations (Set vcpu reservation) = slice_set reservations vcpu (Some reservation)
edited_once reservations (Leave vcpu) = slice_set reservations vcpu None

-- what edits that apply one after the other make of the reservations by vCPU number
abbrev pub edited : List (Option Reservation) → List Edit → List (Option Reservation)
edited reservations [] = reservations
edited reservations (edit ∷ edits) = edited (edited_once reservations edit) edits

-- the reservations of vCPUs, by number
abbrev pub reservations_of : List Vcpu → List (Option Reservation)
reservations_of vcpus = map (λ vcpu. vcpu.reservation) vcpus

-- the new host is the old one but for its reservations, which are the edited ones
pub record IsEdited (old : Host) (edits : List Edit) (new : Host) : Type 0 where
  pub tick_ns : new.tick_ns ≡ old.tick_ns
  pub cores : new.cores ≡ old.cores
  pub lag : new.lag ≡ old.lag
  pub sliver : new.sliver ≡ old.sliver
  pub quantum : new.quantum ≡ old.quantum
  pub names : map (λ vcpu. vcpu.name) new.vcpus ≡ map (λ vcpu. vcpu.name) old.vcpus
  pub runnable : map (λ vcpu. vcpu.runnable) new.vcpus ≡ map (λ vcpu. vcpu.runnable) old.vcpus
  pub capped : map (λ vcpu. vcpu.capped) new.vcpus ≡ map (λ vcpu. vcpu.capped) old.vcpus
  pub reservations : reservations_of new.vcpus ≡ edited (reservations_of old.vcpus) edits

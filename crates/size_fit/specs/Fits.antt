-- Whether the VMs of a host fit it, and how many more of a size would.
-- Source: a host fits exactly if the planner has a plan for it. There is no other formula. Which vCPUs a plan splits is the
-- planner's rule: those that worst-fit decreasing placement leaves over.
use Rattle.std.specs.Prelude.{◌≡◌, ℕ, ◌+◌, ◌*◌, ◌<◌, ◌≤◌, All, Bool, true, List, Option, length, map}
use Rattle.tab_core.specs.declared.TheConstants.{MAX_VCPUS}
use Rattle.tab_core.specs.declared.host.Host.{Host}
use Rattle.tab_core.specs.declared.over.Over.{Over}
use Rattle.tab_core.specs.declared.periodic.Periodic.{Periodic}
use Rattle.period_choice.specs.Tasks.{AreTasksOf, IsFirstWithoutPeriod}
use Rattle.table_form.specs.Tables.Plans.{PlanView}
use Rattle.worst_fit.specs.Placement.{IsPlacement}
use Rattle.worst_fit.specs.declared.placed.Placed.{Placed}
use Rattle.plan_make.specs.Planned.{IsFirstWithoutRoom, IsPlanned}
use Rattle.sizes_doc.specs.declared.size.Size.{Size}
use Rattle.size_fit.specs.Loads.{loads_of}
use Rattle.size_fit.specs.MoreVms.{HasMoreVms}
use Rattle.size_fit.specs.declared.fit.Room.{Room}

-- the host has no plan
pub data HasNoPlan (host : Host) : Type 0 where
  NoPeriod : (vcpu : ℕ) → IsFirstWithoutPeriod host vcpu → HasNoPlan host
  NoRoom : (vcpu rest : ℕ) (over : List Over) → IsFirstWithoutRoom host vcpu rest over → HasNoPlan host

-- worst fit leaves these vCPUs of the host over, in this order: a plan of the host splits them, and no others
pub record AreSplit (host : Host) (vcpus : List ℕ) : Type 0 where
  pub tasks : List (Option Periodic)
  pub placed : Placed
  pub tasks_are : AreTasksOf host tasks
  pub placement : IsPlacement tasks host.cores placed
  pub left : placed.left ≡ vcpus

-- the host has no room for its vCPUs: it has no plan, or a plan would split some of them where none may be split
pub data HasNoRoom (no_split : Bool) (host : Host) : Type 0 where
  Unplanned : HasNoPlan host → HasNoRoom no_split host
  Split : (vcpus : List ℕ) → no_split ≡ true → AreSplit host vcpus → 1 ≤ length vcpus → HasNoRoom no_split host

-- with so many more VMs of the size the host has a plan, which splits nobody where none may be split
pub record FitWith (no_split : Bool) (host : Host) (size : Size) (count : ℕ) : Type 0 where
  pub other : Host
  pub plan : PlanView
  pub vcpus : List ℕ
  pub more : HasMoreVms host size count other
  pub planned : IsPlanned other plan
  pub split : AreSplit other vcpus
  pub whole : no_split ≡ true → length vcpus ≡ 0

-- with so many more VMs of the size the host has more vCPUs than a host may have, or no room for them
pub data FitNotWith (no_split : Bool) (host : Host) (size : Size) (count : ℕ) : Type 0 where
  TooMany : MAX_VCPUS < length host.vcpus + count * size.vcpus → FitNotWith no_split host size count
  Full : (other : Host) → HasMoreVms host size count other → HasNoRoom no_split other
      → FitNotWith no_split host size count

-- so many more VMs of the size fit, and with one more of them they don't
pub record FitMore (no_split : Bool) (host : Host) (size : Size) (count : ℕ) : Type 0 where
  pub fit : 1 ≤ count → FitWith no_split host size count
  pub full : FitNotWith no_split host size (count + 1)

-- the host has a plan, which splits these vCPUs, these are the loads of its cores, and so many more VMs of each size fit
pub record IsFit (no_split : Bool) (host : Host) (sizes : List Size) (loads split : List ℕ) (rooms : List Room)
    : Type 0 where
  pub plan : PlanView
  pub planned : IsPlanned host plan
  pub loads_are : loads ≡ loads_of plan.rows
  pub split_are : AreSplit host split
  pub sizes_are : map (λ room. room.size) rooms ≡ sizes
  pub more : All (λ room. FitMore no_split host room.size room.more) rooms

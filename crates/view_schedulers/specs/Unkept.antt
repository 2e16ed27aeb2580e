-- Why the vCPUs of a plan aren't put on a scheduler: the first fault of a vCPU by number, else the first slot away from
-- its vCPU's home, else the first core that would be overbooked.
-- Source: the rules of this project.
use Rattle.std.specs.Prelude.{ℕ, zero, suc, ◌==◌, nat_lt, not, Bool, false, if◌then◌else◌, List, [], ◌∷◌, length, Option, Some, None, slice_get}
use Rattle.std.specs.Option.{option_or}
use Rattle.tab_core.specs.declared.TheConstants.{MAX_CORES}
use Rattle.tab_core.specs.declared.reservation.Reservation.{Reservation}
use Rattle.tab_core.specs.declared.vcpu.Vcpu.{Vcpu}
use Rattle.vcpu_names.specs.Names.{name_at}
use Rattle.view_doc.specs.declared.view.Stretch.{Stretch}
use Rattle.view_doc.specs.declared.view.Task.{Task}
use Rattle.view_doc.specs.declared.view.Use.{Use}
use Rattle.view_doc.specs.declared.view.Use.TheVariants.{Idle, Slot, Shared}
use Rattle.view_doc.specs.declared.view.View.{View}
use Rattle.view_schedulers.specs.declared.scheduler.Scheduler.{Scheduler}
use Rattle.view_schedulers.specs.declared.unkept.Unkept.{Unkept}
use Rattle.view_schedulers.specs.declared.unkept.Unkept.TheVariants.{NoGuest, NoTask, OutOfRange, RoundedOut, Stranger, NotKept, Split, Overbooked}
use Rattle.view_schedulers.specs.Budgets.{budget_on, is_task, is_within, parts_given, parts_of, period_on}
use Rattle.view_schedulers.specs.Guests.{has_guest}
use Rattle.view_schedulers.specs.Reserved.{is_reservation_kept, reserved_of}

-- ---- vCPUs

-- the fault of a vCPU whose budget in each period the scheduler takes: the host admits none of its name,
-- or its reservation isn't kept
abbrev pub kept_fault : Scheduler → ℕ → ℕ → ℕ → Option Reservation → Option Unkept
kept_fault s v period budget None = Some (Stranger v)
kept_fault s v period budget (Some r) = if is_reservation_kept s period budget r then None else Some (NotKept v)

-- the fault of a vCPU that would have this period and budget on the scheduler, in its unit of time
abbrev pub budget_fault : Scheduler → List Vcpu → ℕ → List ℕ → ℕ → ℕ → Option Unkept
budget_fault s host v name period budget =
    if not (is_within s period budget) then Some (OutOfRange v)
    else if nat_lt period budget then Some (RoundedOut v)
    else kept_fault s v period budget (reserved_of host name)

-- the fault of a vCPU of a plan
abbrev pub task_fault : Scheduler → ℕ → List Vcpu → ℕ → List ℕ → Task → Option Unkept
task_fault s tick host v name t =
    if not (has_guest name) then Some (NoGuest v)
    else if not (is_task t) then Some (NoTask v)
    else budget_fault s host v name (period_on s tick t) (budget_on s tick t)

-- the fault of the vCPU of a number and a name, which has none where the plan has no line for it
abbrev pub task_fault_in : Scheduler → ℕ → List Vcpu → ℕ → List ℕ → Option Task → Option Unkept
task_fault_in s tick host v name None = None
task_fault_in s tick host v name (Some t) = task_fault s tick host v name t

-- the fault of the plan's vCPU of a number
abbrev pub unkept_vcpu : Scheduler → ℕ → List Vcpu → List (List ℕ) → List Task → ℕ → Option Unkept
unkept_vcpu s tick host names tasks v = task_fault_in s tick host v (name_at names v) (slice_get tasks v)

-- ---- slots

-- the home of a vCPU is another core
abbrev pub is_away : Option Task → ℕ → Bool
is_away None core = false
is_away (Some t) core = not (t.home == core)

-- a slot on another core than its vCPU's home
abbrev pub slot_fault : List Task → ℕ → Use → Option Unkept
slot_fault tasks core Idle = None
slot_fault tasks core (Slot v) = if is_away (slice_get tasks v) core then Some (Split v) else None
slot_fault tasks core (Shared v) = None

-- the fault of the first slot on another core than its vCPU's home
abbrev pub split_fault : List Task → List Stretch → Option Unkept
split_fault tasks [] = None
split_fault tasks (s ∷ ss) = option_or (slot_fault tasks s.core s.by) (split_fault tasks ss)

-- ---- cores

-- more parts of a core than are given away
abbrev pub core_fault : Scheduler → ℕ → List Task → ℕ → Option Unkept
core_fault s tick tasks core =
    if nat_lt (parts_of s) (parts_given s tick core tasks) then Some (Overbooked core) else None

-- ---- all

-- the first fault of the numbers below n
unfoldable pub first_below : (ℕ → Option Unkept) → ℕ → Option Unkept
first_below fault zero = None
first_below fault (suc n) = option_or (first_below fault n) (fault n)

-- why a plan of these vCPUs and slots isn't put on a scheduler: its first fault, of a vCPU, of a slot,
-- or of a core
abbrev pub unkept_in : Scheduler → ℕ → List Vcpu → List (List ℕ) → List Task → List Stretch → Option Unkept
unkept_in s tick host names tasks slots =
    option_or (first_below (unkept_vcpu s tick host names tasks) (length tasks))
    (option_or (split_fault tasks slots) (first_below (core_fault s tick tasks) MAX_CORES))

-- why a plan, beside its host, isn't put on a scheduler
abbrev pub unkept_of : Scheduler → ℕ → List Vcpu → View → Option Unkept
unkept_of s tick host view = unkept_in s tick host view.names.items view.tasks.items view.slots.items

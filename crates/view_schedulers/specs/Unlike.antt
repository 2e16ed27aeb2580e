-- The vCPUs of a plan that libvirt can't have beside others of their guest, since it has one period and one quota for all
-- vCPUs of a guest.
-- Source: of libvirt, formatdomain, "CPU Tuning".
use Rattle.std.specs.Prelude.{ℕ, ◌==◌, ◌&&◌, ◌||◌, not, Bool, false, if◌then◌else◌, List, length, Option, Some, None, slice_get}
use Rattle.std.specs.Str.{bytes_eq}
use Rattle.vcpu_names.specs.Names.{name_at}
use Rattle.view_doc.specs.declared.view.Task.{Task}
use Rattle.view_schedulers.specs.declared.scheduler.Scheduler.TheVariants.{Quota}
use Rattle.view_schedulers.specs.declared.unkept.Unkept.{Unkept}
use Rattle.view_schedulers.specs.declared.unkept.Unkept.TheVariants.{Unlike}
use Rattle.view_schedulers.specs.Budgets.{budget_on, period_on}
use Rattle.view_schedulers.specs.Guests.{guest_of}
use Rattle.view_schedulers.specs.Unkept.{first_below}

-- two tasks would have different periods or quotas, where a tick has so many nanoseconds
abbrev pub is_unlike : ℕ → Task → Task → Bool
is_unlike tick one other = not (period_on Quota tick one == period_on Quota tick other)
    || not (budget_on Quota tick one == budget_on Quota tick other)

-- both vCPUs have lines in the plan, and would have different periods or quotas
abbrev pub are_unlike : ℕ → Option Task → Option Task → Bool
are_unlike tick None other = false
are_unlike tick (Some one) None = false
are_unlike tick (Some one) (Some other) = is_unlike tick one other

-- the fault of a vCPU beside another one: that is of the same guest, and unlike it
abbrev pub unlike_pair : ℕ → List (List ℕ) → List Task → ℕ → ℕ → Option Unkept
unlike_pair tick names tasks v other =
    if bytes_eq (guest_of (name_at names other)) (guest_of (name_at names v))
    && are_unlike tick (slice_get tasks other) (slice_get tasks v) then Some (Unlike v) else None

-- the fault of a vCPU beside those before it: one of them is of its guest, and unlike it
abbrev pub unlike_fault : ℕ → List (List ℕ) → List Task → ℕ → Option Unkept
unlike_fault tick names tasks v = first_below (unlike_pair tick names tasks v) v

-- the first vCPU with such a fault
abbrev pub unlike_of : ℕ → List (List ℕ) → List Task → Option Unkept
unlike_of tick names tasks = first_below (unlike_fault tick names tasks) (length tasks)

-- What is known after the first events of a script.
-- Source: the rules of this project.
use Rattle.std.specs.Prelude.{◌≡◌, ◌⊎◌, ℕ, zero, suc, true, false, List, Some, slice_get, slice_set}
use Rattle.tab_core.specs.declared.host.Host.{Host}
use Rattle.script_doc.specs.declared.event.Act.{Act}
use Rattle.script_doc.specs.declared.event.Act.TheVariants.{Wake, Block, Change, Burst}
use Rattle.script_doc.specs.declared.event.Event.{Event}
use Rattle.plan_book.specs.Changes.{IsChangeRefused, IsChangeTaken}
use Rattle.plan_book.specs.States.{BookState, IsKnownAtFirst}

-- what an event makes of it; a wake or a block sets the flag of its vCPU alone, whether that is
-- admitted or not, and a burst changes nothing
abbrev pub Applies : BookState → Act → BookState → Type 0
Applies known (Wake vcpu) next = next ≡ record known { runnable = slice_set known.runnable vcpu true }
Applies known (Block vcpu) next = next ≡ record known { runnable = slice_set known.runnable vcpu false }
Applies known (Change edits) next = IsChangeTaken known edits next ⊎ IsChangeRefused known edits next
Applies known (Burst vcpu work) next = next ≡ known

-- what is known after the first n events of a script for a host
abbrev pub IsKnownAfter : Host → List Event → ℕ → BookState → Type 0
IsKnownAfter host events zero known = IsKnownAtFirst host known
IsKnownAfter host events (suc n) known =
    (before : BookState) × (event : Event) × IsKnownAfter host events n before
    × (slice_get events n ≡ Some event) × Applies before event.act known

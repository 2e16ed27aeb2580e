-- A host within the bound of worst fit is planned.
use Rattle.std.proofs.Common.{◌≡◌, ℕ, List, [], ◌∷◌, ◌++◌, length, length-append, ap, subst, sym, ◌∙◌, arith}
use Rattle.tab_core.specs.declared.host.Host.{Host}
use Rattle.tab_core.specs.declared.over.Over.{Over}
use Rattle.flow_net.specs.Allotments.{demands}
use Rattle.period_choice.proofs.Unique.{tasks_unique}
use Rattle.worst_fit.specs.Bound.{IsWithinBound}
use Rattle.worst_fit.proofs.PlacesEach.{placement_within_bound}
use Rattle.plan_make.specs.Planned.{IsFirstWithoutRoom}
use Rattle.period_choice.proofs.TasksLemmas.{none_without_period}
use Rattle.host_doc.proofs.OneHost.{one_host}
use Rattle.tableau_sim.specs.declared.status.Status.{Status}
use Rattle.tableau_sim.specs.Bounds.{HasBoundedTasks, HasFittingTasks, IsBounded, IsFitting}
use Rattle.tableau_sim.specs.PlanWhole.{PlansWhole}
use Rattle.wrap_table.specs.Whole.{IsBeyondRoom}
use Rattle.tab_words.specs.Sections.{sections_of}
use Rattle.tab_words.specs.declared.command.Command.TheVariants as called
use Rattle.tableau_sim.specs.Clauses.{IsFaultless}
use Rattle.tableau_sim.specs.Commands.{Replies}
use Rattle.tableau_sim.specs.Outcomes.CallOutcome.{Refuses}
use Rattle.tableau_sim.proofs.OutcomesLemmas.{no_refusal}
use Rattle.host_doc.specs.Document.{IsHostText}
use Rattle.tableau_sim.specs.declared.status.Status.TheVariants as status
use Rattle.tableau_sim.specs.Hosts.{OfHost}
use Rattle.tableau_sim.specs.Hosts.OfHost.{BadHost, Hosted}
use Rattle.tableau_sim.specs.Outcomes.{CallOutcome}
use Rattle.tableau_sim.specs.Plan.{HasNoPlan, Plans, PlansFrom}
use Rattle.tableau_sim.specs.Sections.{host_section}
use Rattle.tableau_sim.proofs.HostsLemmas.{no_host_fault}

-- a list is not empty and with a member
nobody_is_left : (left before after : List ℕ) (v : ℕ) → left ≡ [] → left ≡ before ++ v ∷ after → ⊥
nobody_is_left left before after v none some =
    let size = ap length (sym none ∙ some) in
    omega (arith, size, length-append before (v ∷ after))

-- a host within the bound has room for every vCPU
no_vcpu_lacks_room : (host : Host) (v rest : ℕ) (over : List Over) → HasBoundedTasks host
    → IsFirstWithoutRoom host v rest over → ⊥
no_vcpu_lacks_room host v rest over has first =
    let same = tasks_unique host first.tasks has.tasks first.is_start.tasks_are has.tasks_are in
    let within = subst (λ tasks. IsWithinBound tasks host.cores) (sym same) has.within in
    nobody_is_left first.placed.left first.stuck.before first.stuck.after v
    (placement_within_bound [] first.tasks host.cores first.placed host.some_core
    first.is_start.placement within) first.stuck.left_is

-- a host within the bound has a plan
bounded_has_plan : (host : Host) (refusal : Status) → HasBoundedTasks host → HasNoPlan [] host refusal → ⊥
bounded_has_plan host (status.NoPeriod vcpu) has lacks = none_without_period host has.tasks vcpu has.tasks_are lacks
bounded_has_plan host (status.NoRoom vcpu rest over) has lacks = no_vcpu_lacks_room host vcpu rest over has lacks
bounded_has_plan host other has lacks = absurd lacks

-- nothing refuses a section that is a host which no refusal of P has as its host
pub stated_is_fine : (P : Host → List (List ℕ) → CallOutcome → Type 0) (sections : List (List ℕ)) (host : Host)
    → IsHostText (host_section sections) host → ((refusal : Status) (names : List (List ℕ))
    → P host sections (Refuses refusal names) → ⊥)
    → (refusal : Status) (names : List (List ℕ)) → OfHost P sections (Refuses refusal names) → ⊥
stated_is_fine P sections host is fine refusal names (BadHost fault bad) = no_host_fault _ fault host bad is
stated_is_fine P sections host is fine refusal names (Hosted other outcome also made) = fine refusal names
    (subst (λ h. P h sections (Refuses refusal names)) (one_host _ other host also is) made)

-- nothing refuses what is made of a host that has a plan
pub planned_is_fine : (host : Host) (refusal : Status) (names : List (List ℕ))
    → ((r : Status) → HasNoPlan [] host r → ⊥) → PlansFrom [] host (Refuses refusal names) → ⊥
planned_is_fine host refusal names has (PlansFrom.Unplanned same lacks) = has refusal lacks

-- `plan` doesn't refuse an input whose host is within the bound
pub bounded_is_faultless : (input : List ℕ) → length (sections_of input) ≡ 1
    → IsBounded (host_section (sections_of input)) → IsFaultless Replies called.Plan input
bounded_is_faultless input one bounded refusal names h = no_refusal 1 (OfHost Plans) input one
    (stated_is_fine Plans (sections_of input) bounded.host bounded.is_host
    (λ r ns. planned_is_fine bounded.host r ns (λ s. bounded_has_plan bounded.host s bounded.bounded))) refusal names h

-- a host whose demands fit isn't beyond its room
none_beyond_room : (host : Host) (demand room : ℕ) → HasFittingTasks host → IsBeyondRoom host demand room → ⊥
none_beyond_room host demand room has beyond =
    let same = ap demands (tasks_unique host beyond.tasks has.tasks beyond.tasks_are has.tasks_are) in
    omega (arith, beyond.demand_is, beyond.room_is, beyond.beyond, has.fits, same)

-- `plan whole` doesn't refuse a host whose demands fit
fitting_is_planned : (host : Host) (sections : List (List ℕ)) (refusal : Status) (names : List (List ℕ))
    → HasFittingTasks host → PlansWhole host sections (Refuses refusal names) → ⊥
fitting_is_planned host sections refusal names has (PlansWhole.NoPeriod vcpu lacks) =
    none_without_period host has.tasks vcpu has.tasks_are lacks
fitting_is_planned host sections refusal names has (PlansWhole.NoFit demand room beyond) =
    none_beyond_room host demand room has beyond

-- `plan whole` doesn't refuse an input whose host's demands fit
pub fitting_is_faultless : (input : List ℕ) → length (sections_of input) ≡ 1
    → IsFitting (host_section (sections_of input)) → IsFaultless Replies called.PlanWhole input
fitting_is_faultless input one fitting refusal names h = no_refusal 1 (OfHost PlansWhole) input one
    (stated_is_fine PlansWhole (sections_of input) fitting.host fitting.is_host
    (λ r ns. fitting_is_planned fitting.host (sections_of input) r ns fitting.fitting)) refusal names h

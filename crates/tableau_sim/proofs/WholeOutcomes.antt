-- `plan whole` refuses a host for one cause, and then has no plan for it.
use Rattle.std.proofs.Common.{◌≡◌, ℕ, List, [], refl, sym, ap, ◌∙◌, inl, inr, arith}
use Rattle.tab_core.specs.declared.host.Host.{Host}
use Rattle.table_form.specs.Tables.Plans.{PlanView}
use Rattle.vcpu_names.specs.Names.{names_of}
use Rattle.period_choice.specs.Tasks.{IsFirstWithoutPeriod}
use Rattle.period_choice.proofs.Unique.{tasks_unique}
use Rattle.plan_make.proofs.OneRefusal.{one_without_period}
use Rattle.period_choice.proofs.TasksLemmas.{none_without_period}
use Rattle.plan_text.specs.PlanText.{plan_text}
use Rattle.flow_net.specs.Allotments.{demands}
use Rattle.flow_net.proofs.Loads.{allotment_fits}
use Rattle.wrap_table.specs.Whole.{IsBeyondRoom, IsWholePlan}
use Rattle.wrap_table.specs.declared.fault.WholeFault.{WholeFault}
use Rattle.wrap_table.specs.declared.fault.WholeFault.TheVariants as whole
use Rattle.tableau_sim.specs.declared.status.Status.{Status}
use Rattle.tableau_sim.specs.declared.status.Status.TheVariants as status
use Rattle.tableau_sim.specs.Outcomes.{CallOutcome}
use Rattle.tableau_sim.specs.Outcomes.CallOutcome.{Refuses, Writes}
use Rattle.tableau_sim.specs.Hosts.{OfHost}
use Rattle.tableau_sim.specs.Plan.{HasPlan}
use Rattle.tableau_sim.specs.PlanWhole.{PlansWhole}
use Rattle.tableau_sim.proofs.Stages.{Ends, one_of_host}

-- why a host has no such plan, in the form in which `plan_whole` says it
abbrev HasWholeFault : Host → WholeFault → Type 0
HasWholeFault h (whole.NoPeriod vcpu) = IsFirstWithoutPeriod h vcpu
HasWholeFault h (whole.NoFit demand room) = IsBeyondRoom h demand room
HasWholeFault h whole.NoMemory = ⊥

-- how that is refused
abbrev whole_refusal : Host → WholeFault → CallOutcome
whole_refusal h (whole.NoPeriod vcpu) = Refuses (status.NoPeriod vcpu) (names_of h.vcpus)
whole_refusal h (whole.NoFit demand room) = Refuses (status.NoFit demand room) []
whole_refusal h whole.NoMemory = Refuses status.NoMemory []

-- one demand is beyond one room
one_beyond : (h : Host) (demand other room more : ℕ) → IsBeyondRoom h demand room
    → IsBeyondRoom h other more → (demand ≡ other) × (room ≡ more)
one_beyond h demand other room more a b = (
  a.demand_is ∙ ap demands (tasks_unique h a.tasks b.tasks a.tasks_are b.tasks_are) ∙ sym b.demand_is,
  a.room_is ∙ sym b.room_is,
)

-- a host has one fault
one_whole_fault : (h : Host) (f g : WholeFault) → HasWholeFault h f → HasWholeFault h g → f ≡ g
one_whole_fault h whole.NoMemory g of_f of_g = absurd of_f
one_whole_fault h f whole.NoMemory of_f of_g = absurd of_g
one_whole_fault h (whole.NoPeriod vcpu) (whole.NoPeriod other) of_f of_g =
    ap whole.NoPeriod (one_without_period h vcpu other of_f of_g)
one_whole_fault h (whole.NoPeriod vcpu) (whole.NoFit demand room) of_f of_g =
    absurd (none_without_period h of_g.tasks vcpu of_g.tasks_are of_f)
one_whole_fault h (whole.NoFit demand room) (whole.NoPeriod vcpu) of_f of_g =
    absurd (none_without_period h of_f.tasks vcpu of_f.tasks_are of_g)
one_whole_fault h (whole.NoFit demand room) (whole.NoFit other more) of_f of_g =
    let one = one_beyond h demand other room more of_f of_g in
    let due = one.0 in
    let has = one.1 in
    cc

-- a host with a fault has no plan, since an allotment needs room for all demands
whole_or_fault : (h : Host) (p : PlanView) (f : WholeFault) → IsWholePlan h p → HasWholeFault h f → ⊥
whole_or_fault h p (whole.NoPeriod vcpu) is bad = none_without_period h p.tasks vcpu is.tasks bad
whole_or_fault h p (whole.NoFit demand room) is bad =
    let fits = allotment_fits p.tasks h.cores is.allotment is.is_allotment in
    let same = ap demands (tasks_unique h bad.tasks p.tasks bad.tasks_are is.tasks) in
    omega (arith, bad.demand_is, bad.room_is, bad.beyond, same, fits)
whole_or_fault h p whole.NoMemory is bad = bad

-- what `plan whole` makes of a host
abbrev OfWholeHost : Host → CallOutcome → Type 0
OfWholeHost h = Ends (HasWholeFault h) (whole_refusal h) (HasPlan IsWholePlan h)
    (λ p. Writes (plan_text (names_of h.vcpus) p))

-- an outcome of it, by its stages
whole_stages : (h : Host) (s : List (List ℕ)) (o : CallOutcome) → PlansWhole h s o → OfWholeHost h o
whole_stages h s o (PlansWhole.Planned p has) = inr (p, has, refl)
whole_stages h s o (PlansWhole.NoPeriod vcpu lacks) = inl (whole.NoPeriod vcpu, lacks, refl)
whole_stages h s o (PlansWhole.NoFit demand room beyond) = inl (whole.NoFit demand room, beyond, refl)

-- a refusal of a host is its only outcome
whole_refused : (h : Host) (a b : CallOutcome) (refusal : Status) (names : List (List ℕ))
    → a ≡ Refuses refusal names → OfWholeHost h a → OfWholeHost h b → a ≡ b
whole_refused h a b refusal names is (inl p) (inl q) =
    p.2 ∙ ap (whole_refusal h) (one_whole_fault h p.0 q.0 p.1 q.1) ∙ sym q.2
whole_refused h a b refusal names is (inl p) (inr q) = absurd (whole_or_fault h q.0 p.0 q.1.planned p.1)
whole_refused h a b refusal names is (inr p) q = let e = sym is ∙ p.2 in absurd cc

-- a refusal of sections is their only outcome
pub whole_only : (s : List (List ℕ)) (refusal : Status) (names : List (List ℕ)) (b : CallOutcome)
    → OfHost PlansWhole s (Refuses refusal names) → OfHost PlansWhole s b → Refuses refusal names ≡ b
whole_only s refusal names b = one_of_host PlansWhole s (Refuses refusal names) b (λ h is of_a of_b.
    whole_refused h (Refuses refusal names) b refusal names refl (whole_stages h s _ of_a) (whole_stages h s b of_b))

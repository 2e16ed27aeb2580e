-- What is known after the first n events of a script is determined.
use Rattle.std.proofs.Common.{◌≡◌, ◌⊎◌, inl, inr, ℕ, zero, suc, Bool, List, [], ◌∷◌, ◌++◌, ap, subst, sym, ◌∙◌}
use Rattle.tab_core.specs.declared.edit.Edit.{Edit}
use Rattle.tab_core.specs.declared.host.Host.{Host}
use Rattle.tab_core.proofs.Lists.{same}
use Rattle.table_form.specs.Tables.Plans.{PlanView}
use Rattle.plan_make.specs.Planned.{IsPlanned}
use Rattle.plan_make.proofs.OnePlan.{planned_or_refused, planned_unique}
use Rattle.plan_make.proofs.OneRefusal.{one_without_period, one_without_room, planned_or_without_period, room_or_without_period}
use Rattle.script_doc.specs.declared.event.Act.{Act}
use Rattle.script_doc.specs.declared.event.Act.TheVariants.{Wake, Block, Change, Burst}
use Rattle.script_doc.specs.declared.event.Event.{Event}
use Rattle.plan_book.specs.After.{Applies, IsKnownAfter}
use Rattle.plan_book.specs.Changes.{IsChangeRefused, IsChangeTaken, IsUnplanned}
use Rattle.plan_book.specs.States.{BookState, IsKnownAtFirst}
use Rattle.plan_book.specs.declared.outcome.Outcome.{Outcome}
use Rattle.plan_book.specs.declared.outcome.Outcome.TheVariants.{Planned, NoPeriod, NoRoom}
use Rattle.plan_book.proofs.EditedLemmas.{edited_unique}

-- a state by its five parts
abbrev known_with : Host → PlanView → ℕ → List Bool → List Outcome → BookState
known_with host plan number runnable outcomes =
    record { host = host; plan = plan; number = number; runnable = runnable; outcomes = outcomes }

-- states with the same parts are one
same_known : (a b : BookState) → a.host ≡ b.host → a.plan ≡ b.plan → a.number ≡ b.number
    → a.runnable ≡ b.runnable → a.outcomes ≡ b.outcomes → a ≡ b
same_known a b host plan number runnable outcomes =
    ap (λ h. known_with h a.plan a.number a.runnable a.outcomes) host
    ∙ ap (λ p. known_with b.host p a.number a.runnable a.outcomes) plan
    ∙ ap (λ n. known_with b.host b.plan n a.runnable a.outcomes) number
    ∙ ap (λ r. known_with b.host b.plan b.number r a.outcomes) runnable
    ∙ ap (known_with b.host b.plan b.number b.runnable) outcomes

-- before the first event one state is known, since a host has one plan
first_unique : (host : Host) (a b : BookState) → IsKnownAtFirst host a → IsKnownAtFirst host b → a ≡ b
first_unique host a b of_a of_b =
    same_known a b (of_a.host_is ∙ sym of_b.host_is)
    (planned_unique host a.plan b.plan of_a.planned of_b.planned)
    (of_a.number_is ∙ sym of_b.number_is) (of_a.runnable_is ∙ sym of_b.runnable_is)
    (of_a.no_outcome ∙ sym of_b.no_outcome)

-- one outcome tells why a host has no plan
pub outcome_unique : (host : Host) (a b : Outcome) → IsUnplanned host a → IsUnplanned host b → a ≡ b
outcome_unique host Planned b of_a of_b = absurd of_a
outcome_unique host (NoPeriod vcpu) Planned of_a of_b = absurd of_b
outcome_unique host (NoPeriod vcpu) (NoPeriod other) of_a of_b =
    ap NoPeriod (one_without_period host vcpu other of_a of_b)
outcome_unique host (NoPeriod vcpu) (NoRoom other) of_a of_b =
    absurd (room_or_without_period host vcpu other of_b.0 of_b.1 of_b.2 of_a)
outcome_unique host (NoRoom vcpu) Planned of_a of_b = absurd of_b
outcome_unique host (NoRoom vcpu) (NoPeriod other) of_a of_b =
    absurd (room_or_without_period host other vcpu of_a.0 of_a.1 of_a.2 of_b)
outcome_unique host (NoRoom vcpu) (NoRoom other) of_a of_b =
    ap NoRoom (one_without_room host vcpu other of_a.0 of_b.0 of_a.1 of_b.1 of_a.2 of_b.2).0

-- a host doesn't have both a plan and an outcome without one
pub planned_or_unplanned : (host : Host) (plan : PlanView) (outcome : Outcome) → IsPlanned host plan
    → IsUnplanned host outcome → ⊥
planned_or_unplanned host plan Planned planned unplanned = unplanned
planned_or_unplanned host plan (NoPeriod vcpu) planned unplanned =
    planned_or_without_period host plan vcpu planned unplanned
planned_or_unplanned host plan (NoRoom vcpu) planned unplanned =
    planned_or_refused host plan vcpu unplanned.0 unplanned.1 planned unplanned.2

-- a change that is taken leads to one state
taken_unique : (known : BookState) (edits : List Edit) (a b : BookState) → IsChangeTaken known edits a
    → IsChangeTaken known edits b → a ≡ b
taken_unique known edits a b of_a of_b =
    let host = edited_unique known.host edits a.host b.host of_a.edited of_b.edited in
    let plan = planned_unique b.host a.plan b.plan
    (subst (λ h. IsPlanned h a.plan) host of_a.planned) of_b.planned in
    same_known a b host plan (of_a.number ∙ sym of_b.number) (of_a.runnable ∙ sym of_b.runnable)
    (of_a.outcomes ∙ sym of_b.outcomes)

-- a change that is refused leads to one state
refused_unique : (known : BookState) (edits : List Edit) (a b : BookState) → IsChangeRefused known edits a
    → IsChangeRefused known edits b → a ≡ b
refused_unique known edits a b of_a of_b =
    let host = edited_unique known.host edits of_a.host of_b.host of_a.edited of_b.edited in
    let outcome = outcome_unique of_b.host of_a.outcome of_b.outcome
    (subst (λ h. IsUnplanned h of_a.outcome) host of_a.unplanned) of_b.unplanned in
    of_a.becomes
    ∙ ap (λ o. known_with known.host known.plan known.number known.runnable
    (known.outcomes ++ o ∷ [])) outcome
    ∙ sym of_b.becomes

-- no change is both
taken_or_refused : (known : BookState) (edits : List Edit) (a b : BookState) → IsChangeTaken known edits a
    → IsChangeRefused known edits b → ⊥
taken_or_refused known edits a b taken refused =
    let host = edited_unique known.host edits a.host refused.host taken.edited refused.edited in
    planned_or_unplanned refused.host a.plan refused.outcome
    (subst (λ h. IsPlanned h a.plan) host taken.planned) refused.unplanned

-- a change leads to one state
changed_unique : (known : BookState) (edits : List Edit) (a b : BookState)
    → IsChangeTaken known edits a ⊎ IsChangeRefused known edits a
    → IsChangeTaken known edits b ⊎ IsChangeRefused known edits b → a ≡ b
changed_unique known edits a b (inl of_a) (inl of_b) = taken_unique known edits a b of_a of_b
changed_unique known edits a b (inl of_a) (inr of_b) = absurd (taken_or_refused known edits a b of_a of_b)
changed_unique known edits a b (inr of_a) (inl of_b) = absurd (taken_or_refused known edits b a of_b of_a)
changed_unique known edits a b (inr of_a) (inr of_b) = refused_unique known edits a b of_a of_b

-- each event leads to one state
applied_unique : (known : BookState) (act : Act) (a b : BookState)
    → Applies known act a → Applies known act b → a ≡ b
applied_unique known (Wake vcpu) a b of_a of_b = of_a ∙ sym of_b
applied_unique known (Block vcpu) a b of_a of_b = of_a ∙ sym of_b
applied_unique known (Change edits) a b of_a of_b = changed_unique known edits a b of_a of_b
applied_unique known (Burst vcpu work) a b of_a of_b = of_a ∙ sym of_b

-- the clause `only` of `make_book`; a course that shows one known state shows each
pub known_unique : (host : Host) (events : List Event) (n : ℕ) (a b : BookState)
    → IsKnownAfter host events n a → IsKnownAfter host events n b → a ≡ b
known_unique host events zero a b of_a of_b = first_unique host a b of_a of_b
known_unique host events (suc n) a b of_a of_b =
    let before = known_unique host events n of_a.0 of_b.0 of_a.2 of_b.2 in
    let event = same _ of_a.1 of_b.1 of_a.3 of_b.3 in
    let of_a' = subst (λ (e : Event). Applies of_b.0 e.act a) event
    (subst (λ k. Applies k of_a.1.act a) before of_a.4) in
    applied_unique of_b.0 of_b.1.act a b of_a' of_b.4

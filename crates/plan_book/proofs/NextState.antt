-- What the first plan and each change make of what is known.
use Rattle.std.proofs.Common.{◌≡◌, ℕ, ◌-◌, ◌<◌, List, [], ◌∷◌, ◌++◌, length, length-append, map, Some, refl, ap, subst, sym, ◌∙◌, arith}
use Rattle.std.proofs.lemmas.List.{length-map, map-append}
use Rattle.std.specs.Prelude.{slice_get}
use Rattle.tab_core.specs.Edits.{IsEdited}
use Rattle.tab_core.specs.declared.edit.Edit.{Edit}
use Rattle.tab_core.specs.declared.host.Host.{Host}
use Rattle.tab_core.specs.declared.over.Over.{Over}
use Rattle.table_form.specs.Running.Courses.{no_plan}
use Rattle.table_form.specs.Tables.Plans.{IsPlanFor, PlanView}
use Rattle.table_form.specs.Tables.Views.{plan_view}
use Rattle.table_form.specs.declared.plan.Plan.{Plan}
use Rattle.period_choice.specs.Tasks.{IsFirstWithoutPeriod}
use Rattle.plan_make.specs.Planned.{IsFirstWithoutRoom, IsPlanned}
use Rattle.plan_make.specs.declared.fault.PlanFault.{PlanFault}
use Rattle.plan_make.specs.declared.fault.PlanFault.TheVariants as plan
use Rattle.plan_book.specs.Changes.{IsChangeRefused, IsChangeTaken, IsUnplanned}
use Rattle.plan_book.specs.Inside.Making.{known_of, outcome_of_fault, plan_of}
use Rattle.tab_core.specs.Vcpus.{runnable_at_first}
use Rattle.tab_core.proofs.Lists.{push_new}
use Rattle.plan_book.specs.States.{BookState, IsKnownAtFirst}
use Rattle.plan_book.specs.declared.book_so_far.BookSoFar.{BookSoFar}
use Rattle.plan_book.specs.declared.outcome.Outcome.{Outcome}
use Rattle.plan_book.specs.declared.outcome.Outcome.TheVariants as outcome
use Rattle.plan_book.proofs.ListsByIndex.{index_or_is}

-- a refusal that is an outcome has its cause
pub told_unplanned : (host : Host) (fault : PlanFault) (told : Outcome) → outcome_of_fault fault ≡ Some told
    → ((vcpu : ℕ) → fault ≡ plan.NoPeriod vcpu → IsFirstWithoutPeriod host vcpu)
    → ((vcpu rest : ℕ) (over : List Over) → fault ≡ plan.NoRoom vcpu rest over
    → IsFirstWithoutRoom host vcpu rest over)
    → IsUnplanned host told
told_unplanned host (plan.NoPeriod vcpu) told is period room =
    let same : outcome.NoPeriod vcpu ≡ told = cc in
    subst (IsUnplanned host) same (period vcpu refl)
told_unplanned host (plan.NoRoom vcpu rest over) told is period room =
    let same : outcome.NoRoom vcpu ≡ told = cc in
    subst (IsUnplanned host) same (rest, over, room vcpu rest over refl)
told_unplanned host plan.NoMemory told is period room = absurd cc

-- the plan that was pushed last
last_plan : (plans : List Plan) (p : Plan)
    → plan_of (plans ++ p ∷ []) (length (plans ++ p ∷ []) - 1) ≡ plan_view p
last_plan plans p =
    let size : length (plans ++ p ∷ []) - 1 ≡ length (map plan_view plans) =
    (let sum = length-append plans (p ∷ []) in let same = length-map plans plan_view in omega arith) in
    let at : slice_get (map plan_view (plans ++ p ∷ [])) (length (plans ++ p ∷ []) - 1) ≡ Some (plan_view p) =
    ap (λ k. slice_get (map plan_view (plans ++ p ∷ [])) k) size
    ∙ ap (λ (views : List PlanView). slice_get views (length (map plan_view plans)))
    (map-append plan_view plans (p ∷ []))
    ∙ push_new (map plan_view plans) (plan_view p) in
    index_or_is (map plan_view (plans ++ p ∷ [])) (length (plans ++ p ∷ []) - 1) (plan_view p) no_plan at

-- the plan that is known is the last in the list
pub last_is : (so_far : BookSoFar) (plans : List Plan) (p : Plan)
    → so_far.plans.items ≡ plans ++ p ∷ [] → (known_of so_far).plan ≡ plan_view p
last_is so_far plans p is = ap (λ (ps : List Plan). plan_of ps (length ps - 1)) is ∙ last_plan plans p

-- what `start` has is known before the first event
pub known_first : (host : Host) (so_far : BookSoFar) (p : Plan) → so_far.host ≡ host
    → IsPlanned host (plan_view p) → so_far.plans.items ≡ p ∷ []
    → so_far.runnable ≡ runnable_at_first host.vcpus → so_far.outcomes.items ≡ []
    → IsKnownAtFirst host (known_of so_far)
known_first host so_far p same planned plans runnable outcomes = record {
  host_is = same;
  planned = subst (IsPlanned host) (sym (last_is so_far [] p plans)) planned;
  number_is = (let size = ap length plans in omega arith);
  runnable_is = runnable;
  no_outcome = outcomes;
}

-- the plan of a change that is taken is one for its host
pub fits_first : (host : Host) (so_far : BookSoFar) (p : Plan) → so_far.host ≡ host
    → IsPlanFor host (plan_view p) → so_far.plans.items ≡ p ∷ []
    → IsPlanFor so_far.host (known_of so_far).plan
fits_first host so_far p same fits plans =
    subst (λ h. IsPlanFor h (known_of so_far).plan) (sym same)
    (subst (IsPlanFor host) (sym (last_is so_far [] p plans)) fits)

-- what `take` leaves is a change that is taken
pub known_taken : (old new : BookSoFar) (edits : List Edit) (p : Plan) → 0 < length old.plans.items
    → IsEdited old.host edits new.host → IsPlanned new.host (plan_view p)
    → new.plans.items ≡ old.plans.items ++ p ∷ [] → new.runnable ≡ old.runnable
    → new.outcomes.items ≡ old.outcomes.items ++ outcome.Planned ∷ []
    → IsChangeTaken (known_of old) edits (known_of new)
known_taken old new edits p some edited planned plans runnable outcomes = record {
  edited = edited;
  planned = subst (IsPlanned new.host) (sym (last_is new old.plans.items p plans)) planned;
  number = (let size = ap length plans in let sum = length-append old.plans.items (p ∷ []) in omega arith);
  runnable = runnable;
  outcomes = outcomes;
}

-- the plan of a change that is taken is one for its host
pub fits_taken : (old new : BookSoFar) (p : Plan) → new.plans.items ≡ old.plans.items ++ p ∷ []
    → IsPlanFor new.host (plan_view p) → IsPlanFor new.host (known_of new).plan
fits_taken old new p plans fits = subst (IsPlanFor new.host) (sym (last_is new old.plans.items p plans)) fits

-- the state with other outcomes, to replace them by an equation
abbrev known_with : BookState → List Outcome → BookState
known_with known outcomes = record known { outcomes = outcomes }

-- a refusal is noted, and all else stays
pub known_refused : (old : BookSoFar) (edits : List Edit) (host : Host) (told : Outcome)
    → IsEdited old.host edits host → IsUnplanned host told → (new : BookSoFar)
    → known_of new ≡ record (known_of old) { outcomes = new.outcomes.items }
    → new.outcomes.items ≡ old.outcomes.items ++ told ∷ []
    → IsChangeRefused (known_of old) edits (known_of new)
known_refused old edits host told edited unplanned new same outcomes = record {
  host = host;
  edited = edited;
  outcome = told;
  unplanned = unplanned;
  becomes = same ∙ ap (λ os. known_with (known_of old) os) outcomes;
}

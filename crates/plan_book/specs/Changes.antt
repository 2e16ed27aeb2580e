-- What a change of reservations makes of the host and its plan: the edited host and its plan replace
-- them where there is one, and otherwise nothing changes.
-- Source: the rules of this project.
use Rattle.std.specs.Prelude.{◌≡◌, ℕ, ◌+◌, List, [], ◌∷◌, ◌++◌}
use Rattle.tab_core.specs.Edits.{IsEdited}
use Rattle.tab_core.specs.declared.edit.Edit.{Edit}
use Rattle.tab_core.specs.declared.host.Host.{Host}
use Rattle.tab_core.specs.declared.over.Over.{Over}
use Rattle.period_choice.specs.Tasks.{IsFirstWithoutPeriod}
use Rattle.plan_make.specs.Planned.{IsFirstWithoutRoom, IsPlanned}
use Rattle.plan_book.specs.States.{BookState}
use Rattle.plan_book.specs.declared.outcome.Outcome.{Outcome}
use Rattle.plan_book.specs.declared.outcome.Outcome.TheVariants.{Planned, NoPeriod, NoRoom}

-- why a host has no plan: its first vCPU without a period, or its first without room
abbrev pub IsUnplanned : Host → Outcome → Type 0
IsUnplanned host Planned = ⊥
IsUnplanned host (NoPeriod vcpu) = IsFirstWithoutPeriod host vcpu
IsUnplanned host (NoRoom vcpu) = (rest : ℕ) × (over : List Over) × IsFirstWithoutRoom host vcpu rest over

-- a change is planned: its edits make a host that has a plan, these are the host and the plan from
-- then on, and the plan has the next number
pub record IsChangeTaken (known : BookState) (edits : List Edit) (next : BookState) : Type 0 where
  pub edited : IsEdited known.host edits next.host
  pub planned : IsPlanned next.host next.plan
  pub number : next.number ≡ known.number + 1
  pub runnable : next.runnable ≡ known.runnable
  pub outcomes : next.outcomes ≡ known.outcomes ++ Planned ∷ []

-- a change is refused: its edits make a host that has no plan, and nothing changes
pub record IsChangeRefused (known : BookState) (edits : List Edit) (next : BookState) : Type 0 where
  pub host : Host
  pub edited : IsEdited known.host edits host
  pub outcome : Outcome
  pub unplanned : IsUnplanned host outcome
  pub becomes : next ≡ record known { outcomes = known.outcomes ++ outcome ∷ [] }

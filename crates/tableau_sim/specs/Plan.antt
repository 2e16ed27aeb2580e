-- `plan`, of a host: its plan, or the first cause that it has none.
use Rattle.std.specs.Prelude.{ℕ, List, [], Option}
use Rattle.tab_core.specs.declared.host.Host.{Host}
use Rattle.table_form.specs.Tables.Plans.{IsPlan, IsPlanFor, PlanView}
use Rattle.period_choice.specs.Tasks.{IsFirstWithoutPeriod}
use Rattle.plan_promises.specs.Reservations.{KeepsReservations}
use Rattle.plan_make.specs.Planned.{IsFirstStayingWithoutRoom, IsStayingPlan}
use Rattle.vcpu_names.specs.Names.{names_of}
use Rattle.plan_text.specs.PlanText.{plan_text}
use Rattle.tableau_sim.specs.declared.status.Status.{Status}
use Rattle.tableau_sim.specs.declared.status.Status.TheVariants as status
use Rattle.tableau_sim.specs.Outcomes.{CallOutcome}
use Rattle.tableau_sim.specs.Outcomes.CallOutcome.{Refuses, Writes}

-- the host has this plan by the rule of a command. It gives each of the host's tasks its cost in each of its
-- periods, and has each vCPU on one core at a time; so, as the table repeats without end, each vCPU gets its share
-- of each of its periods and waits no longer than its latency
pub record HasPlan (IsByRule : Host → PlanView → Type 0) (host : Host) (plan : PlanView) : Type 0 where
  pub planned : IsByRule host plan
  pub keeps : IsPlan plan
  pub is_for : IsPlanFor host plan
  pub reservations : KeepsReservations host plan

-- why the host has no plan from these old homes, by the status that says so
abbrev pub HasNoPlan : List (Option ℕ) → Host → Status → Type 0
HasNoPlan homes host (status.NoPeriod vcpu) = IsFirstWithoutPeriod host vcpu
HasNoPlan homes host (status.NoRoom vcpu rest over) = IsFirstStayingWithoutRoom homes host vcpu rest over
HasNoPlan homes host other = ⊥

-- what is made of a host and of old homes of its vCPUs: a plan's text, or a refusal with its cause
pub data PlansFrom (homes : List (Option ℕ)) (host : Host) : CallOutcome → Type 0 where
  Planned : (plan : PlanView) → HasPlan (IsStayingPlan homes) host plan
      → PlansFrom homes host (Writes (plan_text (names_of host.vcpus) plan))
  Unplanned : (refusal : Status) → HasNoPlan homes host refusal
      → PlansFrom homes host (Refuses refusal (names_of host.vcpus))

-- `plan` knows no old homes
abbrev pub Plans : Host → List (List ℕ) → CallOutcome → Type 0
Plans host sections = PlansFrom [] host

-- `plan whole`, of a host: a plan of all cores together, or the first cause that there is none.
use Rattle.std.specs.Prelude.{ℕ, List, []}
use Rattle.tab_core.specs.declared.host.Host.{Host}
use Rattle.table_form.specs.Tables.Plans.{PlanView}
use Rattle.period_choice.specs.Tasks.{IsFirstWithoutPeriod}
use Rattle.wrap_table.specs.Whole.{IsBeyondRoom, IsWholePlan}
use Rattle.vcpu_names.specs.Names.{names_of}
use Rattle.plan_text.specs.PlanText.{plan_text}
use Rattle.tableau_sim.specs.declared.status.Status.TheVariants as status
use Rattle.tableau_sim.specs.Outcomes.{CallOutcome}
use Rattle.tableau_sim.specs.Outcomes.CallOutcome.{Refuses, Writes}
use Rattle.tableau_sim.specs.Plan.{HasPlan}

-- What `plan whole` makes of a host: the text of a plan that lays out an allotment of the host's tasks, or a refusal
-- with its cause. A host may have several such plans, and the text is that of one of them
pub data PlansWhole (host : Host) (sections : List (List ℕ)) : CallOutcome → Type 0 where
  Planned : (plan : PlanView) → HasPlan IsWholePlan host plan
      → PlansWhole host sections (Writes (plan_text (names_of host.vcpus) plan))
  NoPeriod : (vcpu : ℕ) → IsFirstWithoutPeriod host vcpu
      → PlansWhole host sections (Refuses (status.NoPeriod vcpu) (names_of host.vcpus))
  NoFit : (demand room : ℕ) → IsBeyondRoom host demand room
      → PlansWhole host sections (Refuses (status.NoFit demand room) [])

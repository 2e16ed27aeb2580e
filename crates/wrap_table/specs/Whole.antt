-- The whole-host plan of a host, and when the demands of its vCPUs are beyond its cores.
-- Source: R. McNaughton, "Scheduling with deadlines and loss functions", Management Science 6, 1959,
-- for the layout; W. A. Horn, "Some simple scheduling algorithms", Naval Research Logistics
-- Quarterly 21, 1974, for the allotment by flow.
use Rattle.std.specs.Prelude.{◌≡◌, ℕ, ◌*◌, ◌<◌, List, Option}
use Rattle.tab_core.specs.Vcpus.{capped_set}
use Rattle.tab_core.specs.declared.TheConstants.{ROUND}
use Rattle.tab_core.specs.declared.host.Host.{Host}
use Rattle.tab_core.specs.declared.periodic.Periodic.{Periodic}
use Rattle.table_form.specs.Tables.Plans.{PlanView}
use Rattle.period_choice.specs.Tasks.{AreTasksOf}
use Rattle.flow_net.specs.Allotments.{AllotmentView, IsAllotment, demands}
use Rattle.wrap_table.specs.Wrapping.{IsWrapped}

-- the plan lays out some allotment of the host's tasks to its cores, and has the host's capped vCPUs
pub record IsWholePlan (host : Host) (plan : PlanView) : Type 0 where
  pub allotment : AllotmentView
  pub tasks : AreTasksOf host plan.tasks
  pub is_allotment : IsAllotment plan.tasks host.cores allotment
  pub wrapped : IsWrapped plan.tasks allotment host.cores plan
  pub capped : plan.capped ≡ capped_set host.vcpus

-- the demands of the host's tasks sum to so many ticks of a round, more than the room of its cores
pub record IsBeyondRoom (host : Host) (demand room : ℕ) : Type 0 where
  pub tasks : List (Option Periodic)
  pub tasks_are : AreTasksOf host tasks
  pub demand_is : demand ≡ demands tasks
  pub room_is : room ≡ host.cores * ROUND
  pub beyond : room < demand

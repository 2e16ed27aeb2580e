-- Which plan a plan text states for a host.
-- Source: the rules of this project, as for `check` and `plan stay`.
use Rattle.std.specs.Prelude.{◌≡◌, ℕ, List}
use Rattle.tab_core.specs.Vcpus.{capped_set}
use Rattle.tab_core.specs.declared.host.Host.{Host}
use Rattle.table_check.specs.Faults.{AreGood}
use Rattle.table_check.specs.Shapes.{rows_of}
use Rattle.table_form.specs.Tables.Plans.{PlanView}
use Rattle.table_form.specs.declared.raw_tables.RawTables.{RawTables}
use Rattle.period_choice.specs.Tasks.{AreTasksOf}
use Rattle.plan_text.specs.Meaning.{IsPlanText}
use Rattle.vcpu_names.specs.Names.{names_of}

-- the bytes are the text of this plan of the host: of tables that serve the host's tasks, with its capped vCPUs
pub record IsStated (host : Host) (bytes : List ℕ) (plan : PlanView) : Type 0 where
  pub tasks : AreTasksOf host plan.tasks
  pub raw : RawTables
  pub text : IsPlanText (names_of host.vcpus) host.cores plan.tasks bytes raw
  pub good : AreGood plan.tasks raw.rows
  pub homes : plan.homes ≡ raw.homes
  pub rows : plan.rows ≡ rows_of raw.rows
  pub capped : plan.capped ≡ capped_set host.vcpus

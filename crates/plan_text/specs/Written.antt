-- What the text of a plan is read as.
use Rattle.std.specs.Prelude.{◌≡◌, ◌≤◌, length, map}
use Rattle.std.specs.List.{All}
use Rattle.tab_core.specs.declared.TheConstants.{MAX_VCPUS, ROUND}
use Rattle.tab_core.specs.declared.host.Host.{Host}
use Rattle.table_form.specs.Tables.Plans.{IsPlan, IsPlanFor, PlanView}
use Rattle.table_form.specs.Tables.Rows.{Row}
use Rattle.table_form.specs.Tables.Segments.{segment_view, segments_from}
use Rattle.table_form.specs.declared.raw_tables.RawTables.{RawTables}
use Rattle.plan_text.specs.Names.{AreHostNames}
use Rattle.plan_text.specs.Meaning.{IsPlanText}
use Rattle.plan_text.specs.PlanText.{plan_text}
use Rattle.vcpu_names.specs.Names.{names_of}

-- a host and a plan for it, with what their types keep
pub record IsHostWithPlan (host : Host) (plan : PlanView) : Type 0 where
  pub names : AreHostNames (names_of host.vcpus)
  pub few : length host.vcpus ≤ MAX_VCPUS
  pub rounds : All (λ (row : Row). length row ≡ ROUND) plan.rows
  pub keeps : IsPlan plan
  pub is_for : IsPlanFor host plan

-- the tables are the plan's homes and its maximal segments
pub record AreOfPlan (plan : PlanView) (raw : RawTables) : Type 0 where
  pub homes : raw.homes ≡ plan.homes
  pub rows : map (λ row. map segment_view row) raw.rows ≡ map (λ row. segments_from 0 row) plan.rows

-- the plan's text stands for these
pub record IsReadBack (host : Host) (plan : PlanView) : Type 0 where
  pub raw : RawTables
  pub own : AreOfPlan plan raw
  pub text : IsPlanText (names_of host.vcpus) host.cores plan.tasks (plan_text (names_of host.vcpus) plan) raw

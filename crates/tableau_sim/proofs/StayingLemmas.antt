-- The text of a plan of a host is kept as it is: which texts are such, and that a plan's own text is one.
use Rattle.std.proofs.Common.{◌≡◌, ℕ, Bool, IsTrue, List, Option, length, refl, sym, subst, ◌∙◌}
use Rattle.std.proofs.lemmas.List.{length-map}
use Rattle.tab_core.specs.Vcpus.{capped_set}
use Rattle.tab_core.specs.declared.host.Host.{Host}
use Rattle.tab_core.specs.declared.periodic.Periodic.{Periodic}
use Rattle.table_form.specs.Tables.Homes.{are_housed}
use Rattle.table_form.specs.Tables.Plans.{PlanView}
use Rattle.table_form.specs.Tables.Rows.{Row, cells_from}
use Rattle.table_form.specs.Tables.Serves.{ServesExactly}
use Rattle.table_form.specs.declared.raw_tables.RawTables.{RawTables}
use Rattle.table_form.specs.declared.segment.Segment.{Segment}
use Rattle.table_form.proofs.TaskLemmas.{tasks_admit}
use Rattle.period_choice.specs.Tasks.{IsFirstWithoutPeriod}
use Rattle.period_choice.proofs.TasksLemmas.{none_without_period, tasks_where_reserved}
use Rattle.plan_promises.proofs.ReservationsLemmas.{kept_by_rows}
use Rattle.table_check.specs.Faults.{AreGood}
use Rattle.table_check.specs.Shapes.{rows_of}
use Rattle.table_check.proofs.Owned.{owners_have_tasks}
use Rattle.tableau_sim.specs.Check.{HasTables}
use Rattle.tableau_sim.specs.Plan.{HasPlan}
use Rattle.tableau_sim.specs.PlanStay.{IsTextOf, IsTextOfNone}

-- ---- tables that are a plan

-- the plan of tables that were read
pub plan_of : Host → List (Option Periodic) → RawTables → PlanView
plan_of host tasks raw =
    record { tasks = tasks; homes = raw.homes; rows = rows_of raw.rows; capped = capped_set host.vcpus }

-- the text of good tables that give the capped vCPUs no more is that of a plan of the host
pub text_of_plan : (sections : List (List ℕ)) (host : Host) (tasks : List (Option Periodic)) (raw : RawTables)
    → HasTables host sections tasks raw → AreGood tasks raw.rows
    → ServesExactly tasks (capped_set host.vcpus) (rows_of raw.rows)
    → HasPlan (IsTextOf sections) host (plan_of host tasks raw)
unfolding plan_of
text_of_plan sections host tasks raw tables good exact =
    let count : length (rows_of raw.rows) ≡ host.cores =
    length-map {B = Row} raw.rows (cells_from 0) ∙ tables.text.fine.rows in
    record {
      planned = record {
        raw = raw;
        tables = tables;
        good = good;
        homes = refl;
        rows = refl;
        capped = refl;
        exact = exact;
      };
      keeps = record {
        serves = good.serves;
        apart = good.apart;
        housed = subst (λ n. IsTrue (are_housed n tasks raw.homes)) (sym count) tables.text.fine.housed;
        owned = owners_have_tasks tasks raw.rows
            (λ k d low j e less. (tables.text.fine.segments k d low j e less).owned);
        exact = exact;
      };
      is_for = record {
        rows = count;
        vcpus = tables.are_tasks.as_many;
        admitted = tasks_admit host.vcpus tasks tables.are_tasks.as_many
            (tasks_where_reserved host tasks tables.are_tasks);
      };
      reservations = kept_by_rows host _ tables.are_tasks good.serves good.apart;
    }

-- tables are good as they were checked
pub good_as : (tasks seen : List (Option Periodic)) (raw checked : List (List Segment)) → seen ≡ tasks
    → checked ≡ raw → AreGood seen checked → AreGood tasks raw
good_as tasks seen raw checked tasks_are raw_are good =
    subst (λ (t : List (Option Periodic)). AreGood t raw) tasks_are (subst (AreGood seen) raw_are good)

-- rows serve the capped vCPUs exactly as that was found
pub exact_as : (tasks seen : List (Option Periodic)) (capped had : List Bool) (raw checked : List (List Segment))
    → seen ≡ tasks → had ≡ capped → checked ≡ raw → ServesExactly seen had (rows_of checked)
    → ServesExactly tasks capped (rows_of raw)
exact_as tasks seen capped had raw checked tasks_are capped_are raw_are exact =
    subst (λ (t : List (Option Periodic)). ServesExactly t capped (rows_of raw)) tasks_are
    (subst (λ (c : List Bool). ServesExactly seen c (rows_of raw)) capped_are
    (subst (λ (r : List (List Segment)). ServesExactly seen had (rows_of r)) raw_are exact))

-- ---- texts of no plan

-- a host without tasks has no plan
pub none_without_tasks : (sections : List (List ℕ)) (host : Host) (vcpu : ℕ) → IsFirstWithoutPeriod host vcpu
    → IsTextOfNone sections host
none_without_tasks sections host vcpu lacks plan is =
    none_without_period host plan.tasks vcpu is.tables.are_tasks lacks

-- `plan stay`, of a host and the text of an earlier plan: that text itself where it is a plan of the host, and
-- else the plan that moves nobody without need, or the first cause that there is none.
use Rattle.std.specs.Prelude.{◌≡◌, ℕ, List, [], Option}
use Rattle.tab_core.specs.Vcpus.{capped_set}
use Rattle.tab_core.specs.declared.host.Host.{Host}
use Rattle.tab_words.specs.Texts.{worded}
use Rattle.table_check.specs.Faults.{AreGood}
use Rattle.table_check.specs.Shapes.{rows_of}
use Rattle.table_form.specs.Tables.Plans.{PlanView}
use Rattle.table_form.specs.Tables.Serves.{ServesExactly}
use Rattle.table_form.specs.declared.raw_tables.RawTables.{RawTables}
use Rattle.vcpu_names.specs.Names.{names_of}
use Rattle.plan_text.specs.FirstBad.{IsFirstBadFor}
use Rattle.plan_text.specs.OldHomes.{AreOldHomes}
use Rattle.plan_text.specs.OldText.{IsSomeOldText}
use Rattle.tableau_sim.specs.declared.status.Status.TheVariants as status
use Rattle.tableau_sim.specs.Check.{HasTables, plan_section}
use Rattle.tableau_sim.specs.Outcomes.{CallOutcome}
use Rattle.tableau_sim.specs.Outcomes.CallOutcome.{Refuses, Writes}
use Rattle.tableau_sim.specs.Plan.{HasPlan, PlansFrom}

-- the second section is the text of this plan of the host: `check` says `ok` of it, and it gives each capped vCPU
-- exactly its cost in each of its periods
pub record IsTextOf (sections : List (List ℕ)) (host : Host) (plan : PlanView) : Type 0 where
  pub raw : RawTables
  pub tables : HasTables host sections plan.tasks raw
  pub good : AreGood plan.tasks raw.rows
  pub homes : plan.homes ≡ raw.homes
  pub rows : plan.rows ≡ rows_of raw.rows
  pub capped : plan.capped ≡ capped_set host.vcpus
  pub exact : ServesExactly plan.tasks plan.capped plan.rows

-- the second section is the text of no plan of the host
abbrev pub IsTextOfNone : List (List ℕ) → Host → Type 0
IsTextOfNone sections host = (plan : PlanView) → IsTextOf sections host plan → ⊥

-- what is made anew of a host and of these sections: the second is some plan's text, which gives the host's vCPUs
-- their old homes; or its first bad line is refused
pub data PlansAnew (host : Host) (sections : List (List ℕ)) : CallOutcome → Type 0 where
  Stays : (homes : List (Option ℕ)) (outcome : CallOutcome)
      → AreOldHomes (names_of host.vcpus) (worded (plan_section sections)) homes
      → PlansFrom homes host outcome → PlansAnew host sections outcome
  BadLine : (line : ℕ) → IsFirstBadFor IsSomeOldText 1 (worded (plan_section sections)) line
      → PlansAnew host sections (Refuses (status.BadPlanLine line) [])

-- what `plan stay` makes of a host and of these sections: the text in the second, byte for byte, where that is the
-- text of a plan of the host, and else what is made anew
pub data PlansStaying (host : Host) (sections : List (List ℕ)) : CallOutcome → Type 0 where
  Unchanged : (plan : PlanView) → HasPlan (IsTextOf sections) host plan
      → PlansStaying host sections (Writes (plan_section sections))
  Changed : (outcome : CallOutcome) → IsTextOfNone sections host → PlansAnew host sections outcome
      → PlansStaying host sections outcome

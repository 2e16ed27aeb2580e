-- What `tableau check` says of the text of a plan beside its host: that its tables have good shapes, are apart and serve
-- the host's tasks, or the first cause that they don't.
use Rattle.std.specs.Prelude.{◌≡◌, ℕ, List, [], Option}
use Rattle.tab_core.specs.declared.host.Host.{Host}
use Rattle.tab_core.specs.declared.periodic.Periodic.{Periodic}
use Rattle.tab_words.specs.Texts.{worded}
use Rattle.table_form.specs.declared.raw_tables.RawTables.{RawTables}
use Rattle.period_choice.specs.Tasks.{AreTasksOf, IsFirstWithoutPeriod}
use Rattle.period_choice.specs.declared.fault.TaskFault.{TaskFault}
use Rattle.period_choice.specs.declared.fault.TaskFault.TheVariants as fault
use Rattle.plan_make.specs.Refusal.{no_period_line}
use Rattle.plan_text.specs.FirstBad.{IsFirstBadFor}
use Rattle.plan_text.specs.Meaning.{IsPlanText, IsSomePlan}
use Rattle.plan_text.specs.Refusal.{plan_fault_line}
use Rattle.vcpu_names.specs.Names.{name_at, names_of}
use Rattle.table_check.specs.Faults.{AreGood, HasCheckFault}
use Rattle.table_check.specs.Refusal.{check_fault_line}
use Rattle.table_check.specs.declared.fault.CheckFault.{CheckFault}
use Rattle.tool_input.specs.declared.verdict.Verdict.{Verdict}
use Rattle.tool_input.specs.declared.verdict.Verdict.TheVariants as verdict

-- the host's vCPUs have these tasks, and the text is that of these tables
pub record HasTables (host : Host) (text : List ℕ) (tasks : List (Option Periodic)) (raw : RawTables) : Type 0 where
  pub are_tasks : AreTasksOf host tasks
  pub is_text : IsPlanText (names_of host.vcpus) host.cores tasks text raw

-- what is said of the text: its tables are a plan of the host; or the first cause that they aren't
pub data IsVerdict (host : Host) (text : List ℕ) : Verdict → Type 0 where
  Passes : (tasks : List (Option Periodic)) (raw : RawTables) → HasTables host text tasks raw
      → AreGood tasks raw.rows → IsVerdict host text verdict.Plan
  NoPeriod : (vcpu : ℕ) → IsFirstWithoutPeriod host vcpu → IsVerdict host text (verdict.NoPeriod vcpu)
  BadLine : (tasks : List (Option Periodic)) (line : ℕ) → AreTasksOf host tasks
      → IsFirstBadFor (IsSomePlan (names_of host.vcpus) host.cores tasks) 1 (worded text) line
      → IsVerdict host text (verdict.BadLine line)
  BadTables : (tasks : List (Option Periodic)) (raw : RawTables) (fault : CheckFault)
      → HasTables host text tasks raw → HasCheckFault tasks raw.rows fault
      → IsVerdict host text (verdict.BadTables fault)

-- what is said of a host that has no tasks: which vCPU has no period
abbrev pub IsTaskVerdict : TaskFault → Verdict → Type 0
IsTaskVerdict (fault.NoPeriod vcpu) said = said ≡ verdict.NoPeriod vcpu
IsTaskVerdict fault.NoMemory said = ⊥

-- the line that `tableau check` writes of it, for vCPUs of these names; nothing where it refuses nothing
abbrev pub verdict_line : List (List ℕ) → Verdict → List ℕ
verdict_line names verdict.Plan = []
verdict_line names (verdict.NoPeriod vcpu) = no_period_line (name_at names vcpu)
verdict_line names (verdict.BadLine line) = plan_fault_line line
verdict_line names (verdict.BadTables fault) = check_fault_line names fault

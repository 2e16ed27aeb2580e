-- What is said of a host that has no tasks.
use Rattle.std.proofs.Common.{◌≡◌, ℕ, List, Ok, Err, refl, subst, sym}
use Rattle.std.specs.Prelude.{IfOk, Result}
use Rattle.tab_core.specs.declared.host.Host.{Host}
use Rattle.period_choice.specs.Tasks.{IsFirstWithoutPeriod}
use Rattle.period_choice.specs.declared.fault.TaskFault.{TaskFault}
use Rattle.period_choice.specs.declared.fault.TaskFault.TheVariants as fault
use Rattle.tool_input.specs.Verdicts.{IsTaskVerdict, IsVerdict}
use Rattle.tool_input.specs.declared.verdict.Verdict.{Verdict}

-- it is that of the host and any text
pub of_tasks : {E : Type 0} (host : Host) (text : List ℕ) (f : TaskFault) (said : Result Verdict E)
    → ((vcpu : ℕ) → f ≡ fault.NoPeriod vcpu → IsFirstWithoutPeriod host vcpu)
    → IfOk said (IsTaskVerdict f) → IfOk said (IsVerdict host text)
of_tasks host text f (Err e) no_period h = tt {0}
of_tasks host text (fault.NoPeriod vcpu) (Ok v) no_period h =
    subst (IsVerdict host text) (sym h) (IsVerdict.NoPeriod vcpu (no_period vcpu refl))
of_tasks host text fault.NoMemory (Ok v) no_period h = absurd h

-- Calls that write an advice, or nothing.
use Rattle.std.proofs.Common.{codes, ◌≡◌, ℕ, List, [], Option, Some, Result, Ok, Err, inl, inr, refl, slice_get}
use Rattle.tab_core.specs.declared.host.Host.{Host}
use Rattle.tab_core.specs.declared.periodic.Periodic.{Periodic}
use Rattle.tab_core.specs.declared.vcpu.Vcpu.{Vcpu}
use Rattle.tab_io.specs.Sinks.{Writes}
use Rattle.tab_io.specs.Views.{SinkView}
use Rattle.tab_io.specs.declared.sink.WriteFault.{WriteFault}
use Rattle.tab_io.proofs.SinkLemmas.{writes_nothing}
use Rattle.host_doc.specs.Document.{IsHostText}
use Rattle.period_choice.specs.Tasks.{AreTasksOf}
use Rattle.tab_words.specs.Commands.{IsCommand}
use Rattle.tab_words.specs.declared.command.Command.TheVariants.{PlanStay}
use Rattle.advice.specs.Advice.{IsPeriodText, IsVcpuText, TellsOfBudgets, TellsOfTasks, WhereThereIs, WhetherToStay, WritesSome}
use Rattle.advice.specs.KeyLines.{vcpu_line}
use Rattle.advice.specs.Faults.{of_sink}
use Rattle.advice.specs.declared.fault.AdviceFault.{AdviceFault}
use Rattle.advice.specs.declared.fault.AdviceFault.TheVariants as fault
use Rattle.advice.proofs.AgainLemmas.{told_of_it}

-- such a text was written
pub writes_such : (IsText : List ℕ → Type 0) (text : List ℕ) (s t : SinkView) (r : Result (Unit {0}) WriteFault)
    → IsText text → Writes s t text r → WritesSome IsText s t (of_sink r)
writes_such IsText text s t (Ok done) is writes = record { text = text; is = is; writes = writes }
writes_such IsText text s t (Err of_write) is writes = record { text = text; is = is; writes = writes }

-- a text that is the advice was written, where there may be none
pub tells_it : (IsText : List ℕ → Type 0) (text : List ℕ) (s t : SinkView) (r : Result (Unit {0}) WriteFault)
    → IsText text → Writes s t text r → WritesSome (WhereThereIs IsText) s t (of_sink r)
tells_it IsText text s t r is writes = writes_such (WhereThereIs IsText) text s t r (inl is) writes

-- there was no text, and none was written
pub tells_nothing : (IsText : List ℕ → Type 0) (s : SinkView) → ((other : List ℕ) → ¬ (IsText other))
    → WritesSome (WhereThereIs IsText) s s (Ok (tt {0}))
tells_nothing IsText s none = record { text = []; is = inr (none, refl); writes = writes_nothing s (tt {0}) }

-- such a text is also such another one
pub writes_as : {IsText IsOther : List ℕ → Type 0} (also : (text : List ℕ) → IsText text → IsOther text)
    (s t : SinkView) (r : Result (Unit {0}) AdviceFault) → WritesSome IsText s t r → WritesSome IsOther s t r
writes_as also s t (Ok done) wrote =
    record { text = wrote.text; is = also wrote.text wrote.is; writes = wrote.writes }
writes_as also s t (Err (fault.Sink of_write)) wrote =
    record { text = wrote.text; is = also wrote.text wrote.is; writes = wrote.writes }
writes_as also s t (Err fault.NoMemory) same = same

-- after the words of `plan stay` its advice was written
pub writes_to_stay : (words : List (List ℕ)) (IsText IsOther : List ℕ → Type 0) (s t : SinkView)
    (r : Result (Unit {0}) AdviceFault) → IsCommand words PlanStay → WritesSome IsText s t r
    → WritesSome (WhetherToStay words IsText IsOther) s t r
writes_to_stay words IsText IsOther s t r stay wrote = writes_as (λ text told. inl (stay, told)) s t r wrote

-- after any other words the other one was written
pub writes_otherwise : (words : List (List ℕ)) (IsText IsOther : List ℕ → Type 0) (s t : SinkView)
    (r : Result (Unit {0}) AdviceFault) → ¬ (IsCommand words PlanStay) → WritesSome IsOther s t r
    → WritesSome (WhetherToStay words IsText IsOther) s t r
writes_otherwise words IsText IsOther s t r others wrote =
    writes_as (λ text told. inr (others, told)) s t r wrote

-- a text that tells of this host's budgets was written
pub tells_budgets : (Told : Host → List (Option Periodic) → List ℕ → Type 0) (host : Host)
    (tasks : List (Option Periodic)) (s t : SinkView) (r : Result (Unit {0}) AdviceFault) → AreTasksOf host tasks
    → WritesSome (Told host tasks) s t r → WritesSome (WhereThereIs (TellsOfBudgets Told host)) s t r
tells_budgets Told host tasks s t r are_tasks wrote = writes_as (λ text told.
    inl (record { tasks = tasks; are_tasks = are_tasks; tells = told })) s t r wrote

-- a text that tells of the host's budgets was written
pub tells_tasks : (section : List ℕ) (Told : Host → List (Option Periodic) → List ℕ → Type 0) (host : Host)
    (tasks : List (Option Periodic)) (s t : SinkView) (r : Result (Unit {0}) AdviceFault)
    → IsHostText section host → AreTasksOf host tasks → WritesSome (Told host tasks) s t r
    → WritesSome (WhereThereIs (TellsOfTasks section Told)) s t r
tells_tasks section Told host tasks s t r is_host are_tasks wrote = writes_as (λ text told.
    inl (record { host = host; tasks = tasks; is_host = is_host; are_tasks = are_tasks; tells = told }))
    s t r wrote

-- what may tell of a vCPU may tell of the host's
told_of_host : (section : List ℕ) (number : ℕ) (host : Host) (vcpu : Vcpu) (text : List ℕ)
    → IsHostText section host → slice_get host.vcpus number ≡ Some vcpu
    → WhereThereIs (IsVcpuText (vcpu_line number (codes "latency_ns") section) vcpu host.tick_ns) text → WhereThereIs (IsPeriodText section number) text
told_of_host section number host vcpu text is_host at (inl tells) =
    inl (record { host = host; vcpu = vcpu; is_host = is_host; at = at; tells = tells })
told_of_host section number host vcpu text is_host at (inr none) =
    inr ((λ other tells. none.0 other (told_of_it section number host vcpu is_host at other tells)), none.1)

-- the call that writes of a vCPU writes of the host's
pub tells_vcpu : (section : List ℕ) (number : ℕ) (host : Host) (vcpu : Vcpu) (s t : SinkView)
    (r : Result (Unit {0}) AdviceFault) → IsHostText section host → slice_get host.vcpus number ≡ Some vcpu
    → WritesSome (WhereThereIs (IsVcpuText (vcpu_line number (codes "latency_ns") section) vcpu host.tick_ns)) s t r
    → WritesSome (WhereThereIs (IsPeriodText section number)) s t r
tells_vcpu section number host vcpu s t r is_host at wrote =
    writes_as (λ text told. told_of_host section number host vcpu text is_host at told) s t r wrote

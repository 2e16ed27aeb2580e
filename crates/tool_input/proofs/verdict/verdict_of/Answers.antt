use Rattle.std.proofs.Common.{ap, subst, sym, Err}
use Rattle.std.specs.Prelude.{IfNone, IfSome}
use Rattle.table_check.specs.Faults.{AreGood, HasCheckFault}
use Rattle.tool_input.specs.Verdicts.{HasTables, IsVerdict}
use Rattle.tool_input.proofs.VerdictLemmas.{of_tasks}
use Rattle.tool_input.proofs.verdict.verdict_of.Goals as goal

pub returns-in-Err : goal.returns-in-Err
returns-in-Err c = of_tasks c.args.host.now c.args.text.now c.in-Err.fault c.verdict_of_tasks.result
    (λ vcpu e. c.in-Err.ensures.no_period vcpu (ap Err e)) c.verdict_of_tasks.ensures

pub returns-in-Err-BadLine : goal.returns-in-Err-BadLine
returns-in-Err-BadLine c =
    rw c.in-Err-BadLine.field-0-is (IsVerdict.BadLine c.in-Ok.tasks c.in-Err-BadLine.line c.in-Ok.ensures.ok
    (c.in-Err-BadLine.ensures.bad_line c.in-Err-BadLine.line (ap Err c.in-Err-BadLine.field-0-is)))

pub returns-in-None : goal.returns-in-None
returns-in-None c =
    let found : AreGood c.items.result.now c.items-2.result.now =
    subst (λ fault. IfNone fault (AreGood c.items.result.now c.items-2.result.now)) c.in-None.is
    c.in_ok-first_fault.ensures.none in
    IsVerdict.Passes c.in-Ok.tasks c.in-Ok-read_plan.raw
    (record { are_tasks = c.in-Ok.ensures.ok; is_text = c.in-Ok-read_plan.ensures.ok })
    (rw (sym c.items.ensures.same, sym c.items-2.ensures) found)

pub returns : goal.returns
returns c =
    let tables : HasTables c.args.host.now c.args.text.now c.in-Ok.tasks c.in-Ok-read_plan.raw =
    record { are_tasks = c.in-Ok.ensures.ok; is_text = c.in-Ok-read_plan.ensures.ok } in
    let found : HasCheckFault c.items.result.now c.items-2.result.now c.in-Some.fault =
    subst (λ fault. IfSome fault (HasCheckFault c.items.result.now c.items-2.result.now)) c.in-Some.is
    c.in_ok-first_fault.ensures.some in
    IsVerdict.BadTables c.in-Ok.tasks c.in-Ok-read_plan.raw c.in-Some.fault tables
    (rw (sym c.items.ensures.same, sym c.items-2.ensures) found)

use Rattle.std.proofs.Common.{ap, inr, rules, subst, sym, Err}
use Rattle.std.specs.Prelude.{IfNone, IfSome}
use Rattle.table_check.specs.Faults.{AreGood, HasCheckFault}
use Rattle.tableau_sim.specs.Check.{Checks, HasTables}
use Rattle.tableau_sim.specs.Hosts.OfHost.{Hosted}
use Rattle.tableau_sim.specs.Inside.Stops.{check_stop, tasks_stop}
use Rattle.tableau_sim.specs.Sections.{host_section}
use Rattle.tableau_sim.proofs.ReplyLemmas.{made_of_host}
use Rattle.tableau_sim.proofs.StopsLemmas.{check_stopped, host_stopped, tasks_stopped}
use Rattle.tableau_sim.proofs.commands.check.check_of.Goals as goal

pub returns-in-Err : goal.returns-in-Err
returns-in-Err c = host_stopped Checks _ _ (rw c.part.ensures at c.in-Err.ensures.stop)

pub returns-in-Err-tasks_of : goal.returns-in-Err-tasks_of
returns-in-Err-tasks_of c =
    let is = rw c.part.ensures at c.in-Ok.ensures.ok in
    rw c.stop_of_tasks.ensures (made_of_host Checks c.args.sections.now c.in-Ok.host
    (Err (tasks_stop c.in-Err-tasks_of.fault c.in-Ok.host)) is
    (tasks_stopped (Checks c.in-Ok.host c.args.sections.now) (host_section c.args.sections.now) c.in-Ok.host c.in-Err-tasks_of.fault
    (λ vcpu e. Checks.NoPeriod vcpu (c.in-Err-tasks_of.ensures.no_period vcpu (ap Err e)))))

pub returns-then-passes : goal.returns-then-passes
returns-then-passes c =
    let seen = c.passes.ensures (search rules) in (
      Hosted c.in-Ok.host _ (rw c.part.ensures at c.in-Ok.ensures.ok) (Checks.Passes c.in-Ok-tasks_of.tasks seen.raw
          (record { are_tasks = c.in-Ok-tasks_of.ensures.ok; text = rw c.part-text.ensures at seen.is_text }) seen.good),
      tt {0},
    )

pub returns-in-Err-BadLine : goal.returns-in-Err-BadLine
returns-in-Err-BadLine c =
    rw (c.stopped.ensures, c.in-Err-BadLine.field-0-is) (
      Hosted c.in-Ok.host _ (rw c.part.ensures at c.in-Ok.ensures.ok) (Checks.BadLine c.in-Ok-tasks_of.tasks
          c.in-Err-BadLine.line c.in-Ok-tasks_of.ensures.ok
          (rw c.part-text.ensures at (c.in-Err-BadLine.ensures.bad_line c.in-Err-BadLine.line (ap Err c.in-Err-BadLine.field-0-is)))),
      tt {0},
    )

pub returns-in-None : goal.returns-in-None
returns-in-None c =
    let found : AreGood c.items.result.now c.items-2.result.now =
    subst (λ fault. IfNone fault (AreGood c.items.result.now c.items-2.result.now)) c.in-None.is
    c.in-Ok-first_fault.ensures.none in (
      Hosted c.in-Ok.host _ (rw c.part.ensures at c.in-Ok.ensures.ok) (Checks.Passes c.in-Ok-tasks_of.tasks
          c.in-Ok-read_plan.raw (record {
            are_tasks = c.in-Ok-tasks_of.ensures.ok;
            text = rw c.part-text.ensures at c.in-Ok-read_plan.ensures.ok;
          }) (rw (sym c.items.ensures.same, sym c.items-2.ensures) found)),
      tt {0},
    )

pub returns : goal.returns
returns c =
    let is = rw c.part.ensures at c.in-Ok.ensures.ok in
    let tables : HasTables c.in-Ok.host c.args.sections.now c.in-Ok-tasks_of.tasks c.in-Ok-read_plan.raw =
    record { are_tasks = c.in-Ok-tasks_of.ensures.ok; text = rw c.part-text.ensures at c.in-Ok-read_plan.ensures.ok } in
    let found : HasCheckFault c.items.result.now c.items-2.result.now c.in-Some.fault =
    subst (λ fault. IfSome fault (HasCheckFault c.items.result.now c.items-2.result.now)) c.in-Some.is
    c.in-Ok-first_fault.ensures.some in
    rw c.stop_of_check.ensures (made_of_host Checks c.args.sections.now c.in-Ok.host
    (Err (check_stop c.in-Some.fault c.in-Ok.host)) is
    (check_stopped (Checks c.in-Ok.host c.args.sections.now) (host_section c.args.sections.now) c.in-Ok.host c.in-Some.fault _
    (λ faulty. Checks.BadTables c.in-Ok-tasks_of.tasks c.in-Ok-read_plan.raw c.in-Some.fault tables faulty)
    (inr (rw (sym c.items.ensures.same, sym c.items-2.ensures) found))))

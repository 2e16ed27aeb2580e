use Rattle.std.proofs.Common.{◌≡◌, false, Option, None, Some, Err, ap, is_some, rules}
use Rattle.std.specs.Prelude.{IfNone}
use Rattle.table_check.specs.declared.fault.CheckFault.{CheckFault}
use Rattle.tableau_sim.specs.Check.{HasTables}
use Rattle.tableau_sim.proofs.StayingLemmas.{exact_as, good_as, none_without_tasks, plan_of, text_of_plan}
use Rattle.tableau_sim.proofs.commands.plan_stay.is_planned.Goals as goal

pub returns-in-Err-NoPeriod-clause-no : goal.returns-in-Err-NoPeriod-clause-no
returns-in-Err-NoPeriod-clause-no c = λ _. none_without_tasks c.args.sections.now c.args.host.now _
    (c.in-Err-NoPeriod.ensures.no_period _ (ap Err c.in-Err-NoPeriod.field-0-is))

-- what holds where no fault was found
none_found : {P : Type 0} (fault : Option CheckFault) → is_some fault ≡ false → IfNone fault P → P
none_found None is held = held
none_found (Some found) is held = absurd cc

pub returns-in-Ok-serve_exactly-clause-yes : goal.returns-in-Ok-serve_exactly-clause-yes
returns-in-Ok-serve_exactly-clause-yes c = λ yes.
    let tables : HasTables c.args.host.now c.args.sections.now c.in-Ok.tasks c.in-Ok-read_plan.raw =
    record { are_tasks = c.in-Ok.ensures.ok; text = rw c.part.ensures at c.in-Ok-read_plan.ensures.ok } in (
      plan_of c.args.host.now c.in-Ok.tasks c.in-Ok-read_plan.raw,
      text_of_plan c.args.sections.now c.args.host.now c.in-Ok.tasks c.in-Ok-read_plan.raw tables
          (good_as _ _ _ _ c.items.ensures.same c.items-2.ensures
          (none_found c.in-Ok-first_fault.fault (search rules) c.in-Ok-first_fault.ensures.none))
          (exact_as _ _ _ _ _ _ c.items-3.ensures.same c.capped-capped.ensures c.items-4.ensures
          (c.in-Ok-serve_exactly.ensures.0 yes)),
    )

use Rattle.std.proofs.Common.{◌≡◌, ap, refl, Err, false, true, ◌∙◌}
use Rattle.size_fit.specs.Fits.{NoPeriod, NoRoom, Split, Unplanned}
use Rattle.fleet_place.proofs.AcceptLemmas.{accepted_by, no_plan, none_there, room_whole, some_there}
use Rattle.fleet_place.proofs.ask.has_room.Goals as goal

pub returns-in-Err-NoPeriod-clause-refused : goal.returns-in-Err-NoPeriod-clause-refused
returns-in-Err-NoPeriod-clause-refused c = λ is.
    let fault = c.in-Err-NoPeriod in
    Unplanned (NoPeriod fault.field-0-0
    (c.tasks_of.ensures.no_period fault.field-0-0 (fault.is ∙ ap Err fault.field-0-is)))

pub returns-in-Err-NoRoom-clause-refused : goal.returns-in-Err-NoRoom-clause-refused
returns-in-Err-NoRoom-clause-refused c = λ is.
    let fault = c.in-Err-NoRoom in
    Unplanned (NoRoom fault.field-0-0 fault.field-0-1 fault.field-0-2 (c.plan_with.ensures.no_room fault.field-0-0
    fault.field-0-1 fault.field-0-2 (fault.is ∙ ap Err fault.field-0-is)))

pub returns-then-is_empty-clause-planned : goal.returns-then-is_empty-clause-planned
returns-then-is_empty-clause-planned c = λ yes. room_whole c.args.no_split c.args.host.now c.in-Ok.tasks c.in_ok-placed.placed
    c.in-Ok.ensures.ok c.in_ok-placed.ensures.placement
    (none_there c.items.result.now c.in_ok-placed.placed.left c.is_empty.result c.is_empty.ensures c.if-is_empty.true
    c.items.ensures)

pub returns-in-Ok-plan_with-clause-planned : goal.returns-in-Ok-plan_with-clause-planned
returns-in-Ok-plan_with-clause-planned c = λ yes why. accepted_by c.args.host.now c.in-Ok.tasks c.in-Ok.ensures.ok
    (λ vcpu rest over stuck.
    let none : false ≡ true = c.in-Ok-plan_with.ensures.without_room vcpu rest over stuck in
    absurd cc)
    (no_plan c.args.no_split c.args.host.now c.if-no_split.false why)

pub returns-then-no_split-clause-refused : goal.returns-then-no_split-clause-refused
returns-then-no_split-clause-refused c = λ is. Split c.in_ok-placed.placed.left c.if-no_split.true
    (record {
      tasks = c.in-Ok.tasks;
      placed = c.in_ok-placed.placed;
      tasks_are = c.in-Ok.ensures.ok;
      placement = c.in_ok-placed.ensures.placement;
      left = refl;
    })
    (some_there c.items.result.now c.in_ok-placed.placed.left c.is_empty.result c.is_empty.ensures c.if-is_empty.false
    c.items.ensures)

use Rattle.std.proofs.Common.{ap, Err, arith, ◌∙◌}
use Rattle.host_gen.proofs.BoundLemmas.{has_periods, has_room}
use Rattle.tableau_sim.proofs.commands.selftest.prepare_test.Goals as goal

pub unreachable-requires : goal.unreachable-requires
unreachable-requires c =
    let fault = c.in-Err-NoPeriod in
    has_periods c.args.seed 8 64 c.in_ok-host.host fault.field-0-0 c.in_ok-host.ensures.generated
    (c.make_book.ensures.no_period fault.field-0-0 (fault.is ∙ ap Err fault.field-0-is))

pub unreachable-requires-in-Err-NoRoom : goal.unreachable-requires-in-Err-NoRoom
unreachable-requires-in-Err-NoRoom c =
    let fault = c.in-Err-NoRoom in
    has_room c.args.seed 8 64 c.in_ok-host.host fault.field-0-0 fault.field-0-1 fault.field-0-2 (omega arith)
    c.in_ok-host.ensures.generated
    (c.make_book.ensures.no_room fault.field-0-0 fault.field-0-1 fault.field-0-2 (fault.is ∙ ap Err fault.field-0-is))

use Rattle.view_schedulers.proofs.KeptLemmas.{kept_where}
use Rattle.view_schedulers.proofs.unkept.unkept_of.Goals as goal

pub returns-clause-kept : goal.returns-clause-kept
returns-clause-kept c =
    let view = c.args.view.now in
    kept_where c.args.scheduler c.args.tick_ns c.args.host.now view.names.items view.tasks.items view.slots.items
    c.first_fault.result c.first_fault.ensures

use Rattle.plan_make.proofs.PlacingUnsplit.{none_stand}
use Rattle.plan_make.proofs.unsplit.place_unsplit.Goals as goal

pub loop-number-init : goal.loop-number-init
loop-number-init c = none_stand c.args.tasks.now c.args.core_of.now c.args.count c.in_ok-cores.cores
    c.in_ok-cores.ensures

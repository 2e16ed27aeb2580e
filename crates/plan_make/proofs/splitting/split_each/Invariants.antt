use Rattle.plan_make.proofs.SplitInTurnLemmas.{AreSplit}
use Rattle.plan_make.proofs.splitting.split_each.Given as goal

abbrev pub invariant-loop-vcpu : goal.invariant-loop-vcpu
invariant-loop-vcpu l = AreSplit l.tasks l.initial.cores l.initial.homes l.left l.vcpu-index l.cores l.homes

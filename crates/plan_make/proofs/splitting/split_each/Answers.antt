use Rattle.std.proofs.lemmas.Result.{err_from_is_err_and}
use Rattle.plan_make.proofs.SplitInTurnLemmas.{first_stuck, next_is_ready, none_split, one_more_split}
use Rattle.plan_make.proofs.splitting.split_each.Goals as goal

pub loop-vcpu-init : goal.loop-vcpu-init
loop-vcpu-init c = none_split c.requires

pub split_next-requires-clause-admitted : goal.split_next-requires-clause-admitted
split_next-requires-clause-admitted c =
    (next_is_ready c.loop-vcpu.invariant c.loop-vcpu-test.true c.vcpu-item.is).admitted

pub split_next-requires-clause-known : goal.split_next-requires-clause-known
split_next-requires-clause-known c =
    (next_is_ready c.loop-vcpu.invariant c.loop-vcpu-test.true c.vcpu-item.is).known

pub split_next-requires-clause-new : goal.split_next-requires-clause-new
split_next-requires-clause-new c =
    (next_is_ready c.loop-vcpu.invariant c.loop-vcpu-test.true c.vcpu-item.is).new

pub loop-vcpu-preserved : goal.loop-vcpu-preserved
loop-vcpu-preserved c = one_more_split c.loop-vcpu.invariant c.loop-vcpu-test.true c.vcpu-item.is
    c.in_ok-split_next.ensures.ok

pub returns-in_err-split_next-clause-fault : goal.returns-in_err-split_next-clause-fault
returns-in_err-split_next-clause-fault c =
    let p = err_from_is_err_and c.from_residual.result c.from_residual.ensures.1 in
    rw (p.1, p.2)
    (first_stuck _ c.loop-vcpu.invariant c.loop-vcpu-test.true c.vcpu-item.is
    c.in_err-split_next.ensures.fault)

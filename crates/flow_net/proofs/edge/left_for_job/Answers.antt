use Rattle.std.proofs.Common.{arith}
use Rattle.std.proofs.lemmas.List.{get_or_read}
use Rattle.flow_net.proofs.edge.left_for_job.Goals as goal

pub overflow_sub-result : goal.overflow_sub-result
overflow_sub-result c =
    let d = c.args.demands.now in
    let cost = get_or_read d.costs.items c.args.v c.index.result.now c.requires.vcpu c.index.ensures 0 in
    let due = c.requires.net.flow.due c.args.v c.args.k c.requires.vcpu c.requires.job in
    omega (arith, cost, c.read-lack.ensures, due)

pub returns-then-back : goal.returns-then-back
returns-then-back c =
    let d = c.args.demands.now in
    let cost = get_or_read d.costs.items c.args.v c.index.result.now c.requires.vcpu c.index.ensures 0 in
    let due = c.requires.net.flow.due c.args.v c.args.k c.requires.vcpu c.requires.job in
    rw c.if-back.true (omega (arith, cost, c.read-lack.ensures, due))

pub returns-else-back : goal.returns-else-back
returns-else-back c =
    let due = c.requires.net.flow.due c.args.v c.args.k c.requires.vcpu c.requires.job in
    rw c.if-back.false (omega (arith, c.read-lack.ensures, due))

use Rattle.std.proofs.Common.{◌≡◌, ◌+◌, arith, get_or}
use Rattle.std.proofs.lemmas.List.{get_or_read}
use Rattle.flow_net.specs.Flows.{flow_of}
use Rattle.flow_net.specs.Inside.Demanded.{load}
use Rattle.flow_net.proofs.Lacking.{lack_most, lacks_more, lacks_next}
use Rattle.flow_net.proofs.Spans.{marks_le, period_le}
use Rattle.flow_net.proofs.opening.go_through.Goals as goal

pub overflow_sub-lack : goal.overflow_sub-lack
overflow_sub-lack c =
    let d = c.args.demands.now in
    omega (
      arith,
      c.read.ensures,
      lack_most (load d) d.ok (flow_of c.args.rows.now.items) c.args.v
          c.args.lacks.now.items c.args.job.end c.args.job.lack c.args.i c.requires.vcpu c.requires.interval
          c.requires.before c.requires.most,
    )

pub returns-then-index-job : goal.returns-then-index-job
returns-then-index-job c =
    let d = c.args.demands.now in
    let mark = get_or_read d.marks.items (c.args.i + 1) c.index.result.now
    (omega (arith, c.requires.interval)) c.index.ensures 0 in
    let most = lack_most (load d) d.ok (flow_of c.args.rows.now.items) c.args.v
    c.args.lacks.now.items c.args.job.end c.args.job.lack c.args.i c.requires.vcpu c.requires.interval
    c.requires.before c.requires.most in
    rw c.read.ensures (lacks_more (load d) d.ok (flow_of c.args.rows.now.items) c.args.v
    c.args.lacks.now.items c.args.job.end c.args.job.lack c.args.i c.requires.vcpu c.requires.interval
    c.requires.before most (λ e. omega (arith, e, mark, c.if-index-job.true)))

pub overflow_add-result : goal.overflow_add-result
overflow_add-result c =
    let d = c.args.demands.now in
    let l = load d in
    let in_round = marks_le l d.ok c.args.i l.count (omega (arith, c.requires.interval)) (omega arith) in
    let period = get_or_read d.periods.items c.args.v c.index-2.result.now
    (omega (arith, d.same_len, c.requires.vcpu)) c.index-2.ensures 0 in
    omega (
      arith,
      c.requires.before.end_is,
      c.requires.before.from,
      in_round,
      d.ok.last,
      period,
      period_le l d.ok c.args.v c.requires.vcpu,
    )

pub returns : goal.returns
returns c =
    let d = c.args.demands.now in
    let mark = get_or_read d.marks.items (c.args.i + 1) c.index.result.now
    (omega (arith, c.requires.interval)) c.index.ensures 0 in
    let period = get_or_read d.periods.items c.args.v c.index-2.result.now
    (omega (arith, d.same_len, c.requires.vcpu)) c.index-2.ensures 0 in
    let cost = get_or_read d.costs.items c.args.v c.index-3.result.now c.requires.vcpu c.index-3.ensures 0 in
    let most = lack_most (load d) d.ok (flow_of c.args.rows.now.items) c.args.v
    c.args.lacks.now.items c.args.job.end c.args.job.lack c.args.i c.requires.vcpu c.requires.interval
    c.requires.before c.requires.most in
    let end : get_or d.marks.items (c.args.i + 1) 0 ≡ c.args.job.end
    = omega (arith, mark, c.if-index-job.false) in
    rw c.in_ok-push.ensures.items (rw period (rw cost (rw c.read.ensures
    (lacks_next (load d) d.ok (flow_of c.args.rows.now.items) c.args.v
    c.args.lacks.now.items c.args.job.end c.args.job.lack c.args.i c.requires.vcpu c.requires.interval
    c.requires.before most end))))

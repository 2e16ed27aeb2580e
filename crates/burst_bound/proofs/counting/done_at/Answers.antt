use Rattle.std.proofs.Common.{arith}
use Rattle.burst_bound.proofs.DoneLemmas.{done_before, done_later, done_there, not_done}
use Rattle.burst_bound.proofs.counting.done_at.Goals as goal

pub returns-then-ticks_between-work : goal.returns-then-ticks_between-work
returns-then-ticks_between-work c = λ s kept x at.
    not_done c.args.rounds s c.args.vcpu c.args.work c.args.seen x (let low = c.requires.in_run in omega arith)
    (rw (← c.ticks_between.ensures s kept) c.if-ticks_between-work.true) at

pub loop-low-init : goal.loop-low-init
loop-low-init c = record {
  order = (let low = c.requires.in_run in omega arith);
  after = omega arith;
  in_run = omega arith;
  done = λ s kept. record {
    enough = rw (← c.ticks_between.ensures s kept) c.if-ticks_between-work.false;
    least = λ e low more. low;
  };
}

pub loop-low-preserved : goal.loop-low-preserved
loop-low-preserved c = record {
  order = omega arith;
  after = c.loop-low.invariant.after;
  in_run = (let inv = c.loop-low.invariant.in_run in omega arith);
  done = λ s kept. done_before s c.args.vcpu c.args.work c.args.seen c.loop-low.low c.loop-low.high _
      (c.loop-low.invariant.done s kept)
      (rw (← c.ticks_between-in-loop-low.ensures s kept) c.if-ticks_between-work-2.false);
}

pub loop-low-preserved-then-ticks_between-work-2 : goal.loop-low-preserved-then-ticks_between-work-2
loop-low-preserved-then-ticks_between-work-2 c = record {
  order = omega arith;
  after = (let inv = c.loop-low.invariant.after in omega arith);
  in_run = c.loop-low.invariant.in_run;
  done = λ s kept. done_later s c.args.vcpu c.args.work c.args.seen c.loop-low.low c.loop-low.high _
      (c.loop-low.invariant.done s kept) (let inv = c.loop-low.invariant.after in omega arith)
      (rw (← c.ticks_between-in-loop-low.ensures s kept) c.if-ticks_between-work-2.true);
}

pub returns : goal.returns
returns c = λ s kept. done_there c.args.rounds s c.args.vcpu c.args.work c.args.seen c.loop-low.low c.loop-low.high
    (c.loop-low.invariant.done s kept)
    (let after = c.loop-low.invariant.after in let order = c.loop-low.invariant.order in omega arith)
    c.loop-low-test.false c.loop-low.invariant.in_run

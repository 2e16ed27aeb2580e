use Rattle.std.proofs.Common.{◌+◌, ◌-◌, ◌/◌, arith}
use Rattle.std.proofs.lemmas.List.{get_or_read}
use Rattle.flow_net.specs.Flows.{load_of}
use Rattle.flow_net.proofs.Spans.{place_lt, place_le}
use Rattle.flow_net.proofs.demands.Demands.mark_at.Goals as goal

pub loop-low-preserved-then-index-tick : goal.loop-low-preserved-then-index-tick
loop-low-preserved-then-index-tick c =
    let d = c.args.self.now in
    let l = load_of d.costs.items d.periods.items d.marks.items d.cores in
    let m = c.loop-low.low + (c.loop-low.high - c.loop-low.low) / 2 in
    let t = c.loop-low-test.true in
    let w = c.loop-low.invariant.within in
    let read = get_or_read d.marks.items m c.index.result.now (omega arith) c.index.ensures 0 in
    record {
      order = omega arith;
      within = w;
      between = λ i h e.
          (let after = place_lt l d.ok m i (omega arith) (omega (arith, read, e, c.if-index-tick.true)) in
          (omega (arith, after), (c.loop-low.invariant.between i h e).1));
    }

pub loop-low-preserved : goal.loop-low-preserved
loop-low-preserved c =
    let d = c.args.self.now in
    let l = load_of d.costs.items d.periods.items d.marks.items d.cores in
    let m = c.loop-low.low + (c.loop-low.high - c.loop-low.low) / 2 in
    let t = c.loop-low-test.true in
    let w = c.loop-low.invariant.within in
    let read = get_or_read d.marks.items m c.index.result.now (omega arith) c.index.ensures 0 in
    record {
      order = omega arith;
      within = omega arith;
      between = λ i h e. (
        (c.loop-low.invariant.between i h e).0,
        place_le l d.ok i m h (omega (arith, read, e, c.if-index-tick.false)),
      );
    }

use Rattle.std.proofs.Common.{length, ap, ◌∙◌, arith, rules}
use Rattle.burst_bound.specs.ScriptBursts.{bursts_of}
use Rattle.burst_bound.proofs.ScriptBurstLemmas.{all_bursts, burst_next, no_burst_here, no_burst_yet}
use Rattle.burst_bound.proofs.report.burst_count.Goals as goal
use Rattle.burst_bound.proofs.report.burst_count.Goals.{in-Burst, in_default}

pub loop-i-init : goal.loop-i-init
loop-i-init c = record { so_far = no_burst_yet c.events-events.result.now; few = omega arith }

pub returns : goal.returns
returns c =
    all_bursts c.events-events.result.now c.loop-i.i c.loop-i.count c.loop-i.invariant.so_far c.loop-i-test.false
    ∙ ap (λ es. length (bursts_of es)) c.events-events.ensures.same

pub loop-i-preserved : goal.loop-i-preserved
loop-i-preserved c =
    let events = c.events-events.result.now in
    let inv = c.loop-i.invariant in
    elim c.match-event.branch [
      | in-Burst w ↦
          let next = burst_next events c.loop-i.i c.loop-i.count c.index-events-i.result _ _ inv.so_far
          c.loop-i-test.true c.index-events-i.is w.in-Burst.is in
          rw w.count-is (record { so_far = next.1; few = (let few = inv.few in omega arith) })
      | in_default w ↦
          let rest = no_burst_here events c.loop-i.i c.loop-i.count c.index-events-i.result inv.so_far
          c.loop-i-test.true c.index-events-i.is (search rules) in
          rw w.count-is (record { so_far = rest; few = (let few = inv.few in omega arith) })
    ]

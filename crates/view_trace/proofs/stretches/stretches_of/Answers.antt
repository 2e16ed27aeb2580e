use Rattle.std.proofs.Common.{refl, rules}
use Rattle.view_trace.specs.Traces.{IsShortStint}
use Rattle.view_trace.proofs.StintLemmas.{first_short}
use Rattle.view_trace.proofs.stretches.stretches_of.Goals as goal

pub returns-then-is_short-clause-fault : goal.returns-then-is_short-clause-fault
returns-then-is_short-clause-fault c =
    let short : IsShortStint c.args.begin_ns c.args.tick_ns c.stint-item.result = search rules in (
      refl,
      first_short c.args.begin_ns c.args.tick_ns c.args.stints.now c.loop-stint.stint-index c.stint-item.result
          c.loop-stint.stretches.items c.loop-stint-test.true c.stint-item.is c.loop-stint.invariant.done
          c.loop-stint.invariant.lasting short,
    )

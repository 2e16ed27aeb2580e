use Rattle.std.proofs.Common.{◌≡◌, ◌+◌, [], ◌∷◌, ◌++◌, List, rules, set, subst, sym, take}
use Rattle.view_trace.specs.Stints.{AreClear}
use Rattle.view_trace.specs.declared.stints.TraceStint.{TraceStint}
use Rattle.view_trace.proofs.StintLemmas.{AreEnds, clash_on, clear_on, ends_more, next_taken, none_ended}
use Rattle.view_trace.proofs.stints.clash_in.Goals as goal

pub loop-stint-init : goal.loop-stint-init
loop-stint-init c = record { ends = none_ended; clear = tt }

pub returns-then-stint-ends : goal.returns-then-stint-ends
returns-then-stint-ends c =
    clash_on c.loop-stint.ends c.args.stints.now c.loop-stint.stint-index c.stint-item.result c.index-cpu.result
    c.loop-stint-test.true c.stint-item.is c.loop-stint.invariant.ends c.index-cpu.ensures.value
    c.index-cpu.ensures.small c.if-stint-ends.true c.loop-stint.invariant.clear

pub loop-stint-preserved : goal.loop-stint-preserved
loop-stint-preserved c =
    let now = take c.loop-stint.stint-index c.args.stints.now in
    let more : take (c.loop-stint.stint-index + 1) c.args.stints.now ≡ now ++ c.stint-item.result ∷ [] =
    next_taken c.args.stints.now c.loop-stint.stint-index c.stint-item.result c.loop-stint-test.true
    c.stint-item.is in
    record {
      ends = subst (AreEnds (set c.loop-stint.ends c.index-cpu.result c.max.result)) (sym more)
          (ends_more c.loop-stint.ends now c.stint-item.result c.index-cpu.result c.max.result
          c.loop-stint.invariant.ends c.index-cpu.ensures.value c.index-cpu.ensures.small (search rules));
      clear = subst (λ (stints : List TraceStint). AreClear [] stints) (sym more)
          (clear_on c.loop-stint.ends now c.stint-item.result c.index-cpu.result c.loop-stint.invariant.ends
          c.index-cpu.ensures.value c.index-cpu.ensures.small c.if-stint-ends.false c.loop-stint.invariant.clear);
    }

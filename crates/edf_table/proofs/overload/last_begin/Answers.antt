use Rattle.std.proofs.Common.{◌≡◌, ◌⊎◌, inl, inr, rules}
use Rattle.edf_table.specs.Inside.Progress.{SomeBegin}
use Rattle.edf_table.proofs.Starts.{later_begin, no_begin_next, some_begin}
use Rattle.edf_table.proofs.overload.last_begin.Goals as goal

pub loop-i-preserved : goal.loop-i-preserved
loop-i-preserved c =
    let before : (c.last_before.result ≡ 0) ⊎ SomeBegin c.args.pieces.now c.last_before.result =
    elim c.last_before.ensures.one [
      | inl none ↦ inl none
      | inr begin ↦ inr (some_begin c.args.pieces.now c.loop-i.i c.index-pieces-i-in-loop-i.result
          c.index-pieces-i.result begin.0 c.last_before.result c.loop-i-test.true begin.1)
    ] in
    record {
      earlier = search rules;
      one = later_begin c.args.pieces.now c.loop-i.begin c.last_before.result c.max-begin.result
          (search rules) c.loop-i.invariant.one before;
      none = no_begin_next c.args.pieces.now c.loop-i.i c.loop-i.begin c.last_before.result
          c.max-begin.result c.args.tick c.index-pieces-i-in-loop-i.result c.index-pieces-i.result
          c.loop-i-test.true (search rules) c.loop-i.invariant.none c.last_before.ensures.greatest;
    }

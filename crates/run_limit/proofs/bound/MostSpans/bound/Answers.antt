use Rattle.std.proofs.Common.{◌<◌, arith}
use Rattle.std.specs.Prelude.{slice_index}
use Rattle.run_limit.proofs.LargestLemmas.{sum_more}
use Rattle.run_limit.proofs.bound.MostSpans.bound.Goals as goal

pub loop-core-preserved : goal.loop-core-preserved
loop-core-preserved c =
    let core = c.loop-core.core in
    let within : core < c.args.course.now.cores = omega (arith, c.loop-core-test.true, c.cores-core-end.ensures.cores) in
    record {
      sum = sum_more c.args.course.now core c.loop-core.sum (slice_index c.args.self.now core)
          c.round_stints-sum.result c.loop-core.invariant.sum (c.requires.largest core within)
          c.round_stints-sum.ensures.stints;
      small = omega (arith, c.loop-core.invariant.small, c.round_stints-sum.ensures.small);
    }

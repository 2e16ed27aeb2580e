use Rattle.slice_table.specs.Slices.{ends_of}
use Rattle.slice_table.proofs.SliceListLemmas.{block_more}
use Rattle.slice_table.proofs.slices.block_from.Goals as goal

pub loop-place-preserved : goal.loop-place-preserved
loop-place-preserved c =
    let next = c.holder_from-next in
    record {
      block = block_more (ends_of c.args.spans.now) c.args.size c.args.slice c.holder_from-first.result.0 c.loop-place.rises
          c.with_rise-rises.result c.loop-place.place c.loop-place.last next.result.0 c.loop-place.invariant.block
          next.ensures.from next.ensures.next c.with_rise-rises.ensures next.ensures.holds;
      end = next.ensures.end;
    }

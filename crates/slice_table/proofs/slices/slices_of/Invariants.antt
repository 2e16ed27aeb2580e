use Rattle.std.proofs.Common.{◌≡◌, ◌*◌, length}
use Rattle.slice_table.specs.Inside.Spans.{IsNear}
use Rattle.slice_table.specs.Slices.{ends_of}
use Rattle.slice_table.proofs.SliceListLemmas.{AreSlicedTo}
use Rattle.slice_table.proofs.slices.slices_of.Given as goal

-- the blocks of the slices so far
abbrev pub invariant-loop-block : goal.invariant-loop-block
invariant-loop-block l = record {
  count : length l.blocks.items ≡ l.block;
  near : IsNear (ends_of l.spans) l.size l.number (l.block * 32 * l.size);
  sliced : AreSlicedTo (ends_of l.spans) l.size l.blocks.items (l.block * 32);
}

use Rattle.std.proofs.Common.{◌≡◌}
use Rattle.std.specs.Prelude.{slice_index}
use Rattle.slice_table.specs.Slices.{ends_of}
use Rattle.slice_table.proofs.SliceListLemmas.{IsBlockTo}
use Rattle.slice_table.proofs.slices.block_from.Given as goal

-- the numbers of the block's slices so far
abbrev pub invariant-loop-place : goal.invariant-loop-place
invariant-loop-place l = record {
  block : IsBlockTo (ends_of l.spans) l.size l.slice (record { first = l.first; rises = l.rises }) l.place l.last;
  end : l.end ≡ slice_index (ends_of l.spans) l.last;
}

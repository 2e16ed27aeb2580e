-- the cells of the first intervals are made, and in those the ticks are laid one core further
use Rattle.std.proofs.Common.{◌≡◌, ℕ, ◌+◌, ◌*◌, ◌<◌, ◌≤◌, length, get_or}
use Rattle.flow_net.specs.Allotted.{allotment_view}
use Rattle.flow_net.specs.Rows.{row_at}
use Rattle.wrap_table.specs.Inside.Laying.{HasCells, IsLaidTo, laid_at}
use Rattle.wrap_table.specs.Wrapping.{length_at}
use Rattle.wrap_table.proofs.laying.row_of.Given as goal

abbrev pub invariant-loop-i : goal.invariant-loop-i
invariant-loop-i l = record {
  size : length l.at.items ≡ length l.initial.at.items;
  ticks : length l.row ≡ get_or l.allotment.marks l.i 0;
  cells : HasCells (allotment_view l.allotment) l.core l.row l.i;
  done : (j : ℕ) → j < l.i → IsLaidTo (row_at l.allotment.ticks j)
      ((l.core + 1) * length_at (allotment_view l.allotment) j) (laid_at l.at.items j);
  todo : (j : ℕ) → l.i ≤ j → j < length l.allotment.ticks → IsLaidTo (row_at l.allotment.ticks j)
      (l.core * length_at (allotment_view l.allotment) j) (laid_at l.at.items j);
}

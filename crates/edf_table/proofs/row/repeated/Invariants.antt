use Rattle.std.proofs.Common.{◌≡◌, ◌*◌, map}
use Rattle.table_form.specs.Tables.Rows.{cells_from}
use Rattle.table_form.specs.Tables.Segments.{AreMaximal, segment_view}
use Rattle.edf_table.specs.Inside.Repetition.{so_often}
use Rattle.edf_table.proofs.row.repeated.Given as goal

-- the segments have come so many times
abbrev pub invariant-loop-time : goal.invariant-loop-time
invariant-loop-time l = record {
  maximal : AreMaximal 0 (map segment_view l.row.items) (l.time * l.ticks);
  cells : cells_from 0 l.row.items ≡ so_often l.time (cells_from 0 l.segments.items);
}

use Rattle.std.proofs.Common.{◌≡◌, ◌≤◌, ◌-◌, length, map}
use Rattle.tab_core.specs.declared.TheConstants.{ROUND}
use Rattle.table_form.specs.Planning.EdfRow.{edf_cells, owner_of}
use Rattle.table_form.specs.Planning.Jobs.{jobs_of}
use Rattle.table_form.specs.Tables.Rows.{cells_from}
use Rattle.table_form.specs.Tables.Segments.{AreMaximal, segment_view}
use Rattle.edf_table.specs.Inside.Progress.{IsUnderWay}
use Rattle.edf_table.proofs.row.first_segments_in.Given as goal

abbrev pub invariant-loop-tick : goal.invariant-loop-tick
invariant-loop-tick l = record {
  in_time : l.tick ≤ l.event;
  in_round : l.event ≤ ROUND;
  within : l.tick ≤ l.end;
  a_begin_each : length l.pieces ≤ length l.begins;
  a_place_each : length l.pieces ≤ length l.jobs;
  under_way : IsUnderWay l.pieces l.begins l.jobs l.count l.tick l.tick l.tick l.event;
  maximal : AreMaximal 0 (map segment_view l.segments.items) l.tick;
  cells_are : cells_from 0 l.segments.items ≡ map owner_of (edf_cells (jobs_of l.pieces) l.tick);
}

abbrev pub decreases-loop-tick : goal.decreases-loop-tick
decreases-loop-tick l = l.end - l.tick

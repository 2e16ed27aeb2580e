-- both rows go on from the tick with the segments at these places, and there was no meeting before
use Rattle.std.proofs.Common.{◌-◌, ◌≤◌, length}
use Rattle.tab_core.specs.declared.TheConstants.{ROUND}
use Rattle.table_form.specs.Tables.Rows.{cells_from}
use Rattle.table_check.specs.Inside.Meetings.{MeetNoneBefore}
use Rattle.table_check.proofs.Sweep.{GoesOnFrom}
use Rattle.table_check.proofs.meeting.find_meeting.Given as goal

abbrev pub invariant-sweeping : goal.invariant-sweeping
invariant-sweeping l = record {
  within : l.tick ≤ ROUND;
  here_low : l.here_at ≤ length l.row;
  there_low : l.there_at ≤ length l.other;
  here : GoesOnFrom l.row l.tick l.here_at;
  there : GoesOnFrom l.other l.tick l.there_at;
  none : MeetNoneBefore (cells_from 0 l.row) (cells_from 0 l.other) l.tick;
}

abbrev pub decreases-sweeping : goal.decreases-sweeping
decreases-sweeping l = ROUND - l.tick

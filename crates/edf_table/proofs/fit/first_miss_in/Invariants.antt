use Rattle.std.proofs.Common.{◌≤◌, ◌-◌, length}
use Rattle.tab_core.specs.declared.TheConstants.{ROUND}
use Rattle.edf_table.specs.Inside.Progress.{IsUnderWay}
use Rattle.edf_table.proofs.fit.first_miss_in.Given as goal

abbrev pub invariant-loop-tick : goal.invariant-loop-tick
invariant-loop-tick l = record {
  in_time : l.tick ≤ l.event;
  in_round : l.event ≤ ROUND;
  a_begin_each : length l.pieces ≤ length l.begins;
  a_place_each : length l.pieces ≤ length l.jobs;
  under_way : IsUnderWay l.pieces l.begins l.jobs l.count l.tick l.tick l.tick l.event;
}

abbrev pub decreases-loop-tick : goal.decreases-loop-tick
decreases-loop-tick l = ROUND - l.tick

use Rattle.std.proofs.Common.{◌<◌, ◌≤◌, ℕ, get_or}
use Rattle.tab_core.specs.declared.TheConstants.{ROUND}
use Rattle.edf_table.proofs.turn.least_of.Given as goal

abbrev pub invariant-loop-i : goal.invariant-loop-i
invariant-loop-i l = record {
  in_round : l.least ≤ ROUND;
  below : (k : ℕ) → k < l.i → l.least ≤ get_or l.begins k 0;
  later : (tick : ℕ) → tick < ROUND → ((k : ℕ) → k < l.count → tick < get_or l.begins k 0) → tick < l.least;
}

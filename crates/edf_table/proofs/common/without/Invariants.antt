use Rattle.std.proofs.Common.{◌≡◌, ◌*◌, ◌/◌, ◌<◌, ◌≤◌, length}
use Rattle.tab_core.specs.declared.TheConstants.{ROUND}
use Rattle.edf_table.specs.Inside.Progress.{IsCommonMultiple}
use Rattle.edf_table.proofs.common.without.Given as goal

abbrev pub invariant-loop-left : goal.invariant-loop-left
invariant-loop-left l = record {
  some : 0 < l.left;
  small : l.left ≤ ROUND;
  whole : ROUND / l.left * l.left ≡ ROUND;
  common : IsCommonMultiple l.pieces (length l.pieces) l.left;
}

abbrev pub decreases-loop-left : goal.decreases-loop-left
decreases-loop-left l = l.left

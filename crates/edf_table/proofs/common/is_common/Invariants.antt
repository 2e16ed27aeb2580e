use Rattle.edf_table.specs.Inside.Progress.{IsCommonMultiple}
use Rattle.edf_table.proofs.common.is_common.Given as goal

abbrev pub invariant-loop-i : goal.invariant-loop-i
invariant-loop-i l = IsCommonMultiple l.pieces l.i l.ticks

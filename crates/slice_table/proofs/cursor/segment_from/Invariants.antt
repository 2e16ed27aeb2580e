use Rattle.std.proofs.Common.{◌-◌, length}
use Rattle.slice_table.specs.Inside.Sweeps.{IsPast}
use Rattle.slice_table.proofs.cursor.segment_from.Given as goal

abbrev pub invariant-passing : goal.invariant-passing
invariant-passing l = IsPast l.row l.place l.at

abbrev pub decreases-passing : goal.decreases-passing
decreases-passing l = length l.segments - l.at

use Rattle.std.proofs.Common.{◌+◌, ◌-◌, ◌<◌, ◌≤◌}
use Rattle.cd_split.specs.Cores.{pieces_on}
use Rattle.cd_split.specs.Inside.Search.{IsTooMuch, left_of}
use Rattle.cd_split.specs.Splitting.{FitsWith, cut_of}
use Rattle.cd_split.specs.declared.cut.TheConstants.{LEAST_CUT}
use Rattle.cd_split.proofs.cut.greatest_cut.Given as goal

-- a cut of `low` ticks fits, if that is enough for a cut, and one of `high` ticks doesn't
abbrev pub invariant-loop-low : goal.invariant-loop-low
invariant-loop-low l = record {
  least : LEAST_CUT ≤ l.low + 1;
  below : LEAST_CUT ≤ l.low → l.low < l.left.rest;
  fits : LEAST_CUT ≤ l.low → FitsWith (pieces_on l.cores l.rank.core) (cut_of (left_of l.left) l.low);
  too_much : IsTooMuch l.cores (left_of l.left) l.rank.core l.high;
  within : l.high ≤ l.left.rest;
}

abbrev pub decreases-loop-low : goal.decreases-loop-low
decreases-loop-low l = l.high - l.low

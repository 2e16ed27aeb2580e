use Rattle.std.proofs.Common.{◌-◌}
use Rattle.advice.specs.Inside.Between.{IsShareBetween}
use Rattle.advice.proofs.least.least_share.Given as goal

-- the least one lies between
abbrev pub invariant-loop-low : goal.invariant-loop-low
invariant-loop-low l = IsShareBetween l.r l.tick_ns l.low l.high

abbrev pub decreases-loop-low : goal.decreases-loop-low
decreases-loop-low l = l.high - l.low

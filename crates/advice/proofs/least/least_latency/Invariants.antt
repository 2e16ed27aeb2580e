use Rattle.std.proofs.Common.{◌-◌}
use Rattle.advice.specs.Inside.Between.{IsLatencyBetween}
use Rattle.advice.proofs.least.least_latency.Given as goal

-- the least one lies between
abbrev pub invariant-loop-low : goal.invariant-loop-low
invariant-loop-low l = IsLatencyBetween l.r l.tick_ns l.low l.high

abbrev pub decreases-loop-low : goal.decreases-loop-low
decreases-loop-low l = l.high - l.low

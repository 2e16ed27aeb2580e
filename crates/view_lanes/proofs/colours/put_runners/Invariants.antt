use Rattle.std.proofs.Common.{take}
use Rattle.view_lanes.specs.Colours.{runs_on}
use Rattle.view_lanes.specs.Inside.Standing.{HaveAlso}
use Rattle.view_lanes.proofs.colours.put_runners.Given as goal

-- those so far were put
abbrev pub invariant-loop-stretch : goal.invariant-loop-stretch
invariant-loop-stretch l = HaveAlso (runs_on (take l.stretch-index l.stretches)) l.fn.sets l.sets

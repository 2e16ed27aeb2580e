use Rattle.std.proofs.Common.{◌≡◌, drop, max}
use Rattle.view_lanes.specs.Shown.{last_end}
use Rattle.view_lanes.proofs.shown.last_end.Given as goal

abbrev pub invariant-loop-stretch : goal.invariant-loop-stretch
invariant-loop-stretch l = last_end l.stretches ≡ max l.last (last_end (drop l.stretch-index l.stretches))

use Rattle.std.proofs.Common.{◌≡◌, ℕ, Bool}
use Rattle.view_lanes.specs.Colours.{taken_below}
use Rattle.view_lanes.specs.Inside.Standing.{AreMet}
use Rattle.view_lanes.proofs.colours.is_taken.Given as goal

-- whether one so far has it
abbrev pub invariant-loop-u : goal.invariant-loop-u
invariant-loop-u l = (on : ℕ → ℕ → Bool) → AreMet l.met on l.fn.v → l.taken ≡ taken_below on l.colours l.fn.v l.k l.u

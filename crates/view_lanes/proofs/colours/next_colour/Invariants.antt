use Rattle.std.proofs.Common.{◌≡◌, ℕ, ◌+◌, ◌%◌, ◌-◌, Bool}
use Rattle.view_lanes.specs.Colours.{first_free, is_colour_taken, next_colour}
use Rattle.view_lanes.specs.Inside.Standing.{AreOn}
use Rattle.view_lanes.proofs.colours.next_colour.Given as goal

-- none so far is free
abbrev pub invariant-loop-k : goal.invariant-loop-k
invariant-loop-k l = (on : ℕ → ℕ → Bool) → AreOn l.sets on → next_colour on l.vcpus l.colours l.v
    ≡ first_free (is_colour_taken on l.colours l.v) (24 + l.v % 24) l.k (12 - l.k)

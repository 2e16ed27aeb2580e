use Rattle.std.proofs.Common.{◌≡◌, ℕ, ◌+◌, ◌<◌, drop}
use Rattle.std.specs.Option.{option_or}
use Rattle.std.specs.Prelude.{None, slice_index_or}
use Rattle.view_lanes.specs.Rounds.{used_count_in}
use Rattle.view_lanes.proofs.rounds.used_counts.Given as goal

-- a round has the count that was put, or the one that the other stretches say
abbrev pub invariant-loop-stretch : goal.invariant-loop-stretch
invariant-loop-stretch l = (k : ℕ) → k < 24 → option_or (slice_index_or l.counts k None)
    (used_count_in (drop l.stretch-index l.stretches) (l.first + k)) ≡ used_count_in l.stretches (l.first + k)

use Rattle.std.proofs.Common.{ℕ, ◌+◌, ◌<◌, ◌≤◌}
use Rattle.std.specs.Prelude.{slice_index_or}
use Rattle.view_lanes.specs.declared.frame.Bar.{Bar}
use Rattle.view_text.proofs.window.rise.Given as goal

-- those so far rise
abbrev pub invariant-loop-i : goal.invariant-loop-i
invariant-loop-i l = (k : ℕ) (d : Bar) → k + 1 < l.i
    → (slice_index_or l.bars k d).from ≤ (slice_index_or l.bars (k + 1) d).from

use Rattle.std.proofs.Common.{◌≡◌, drop}
use Rattle.std.specs.List.{list_any}
use Rattle.view_svg.specs.Lanes.{is_bar_of}
use Rattle.view_svg.proofs.lane.has_bar.Given as goal

-- none so far
abbrev pub invariant-loop-bar : goal.invariant-loop-bar
invariant-loop-bar l = list_any (is_bar_of l.v l.shared) l.bars
    ≡ list_any (is_bar_of l.v l.shared) (drop l.bar-index l.bars)

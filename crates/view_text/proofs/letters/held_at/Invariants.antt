use Rattle.std.proofs.Common.{◌≡◌, take}
use Rattle.view_text.specs.TextCharts.{held_at}
use Rattle.view_text.proofs.letters.held_at.Given as goal

-- the ticks of the bars so far
abbrev pub invariant-loop-bar : goal.invariant-loop-bar
invariant-loop-bar l = l.held ≡ held_at l.frame l.columns (take l.bar-index l.bars) l.j

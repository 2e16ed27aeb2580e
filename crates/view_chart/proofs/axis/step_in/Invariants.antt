use Rattle.std.proofs.Common.{◌≡◌, drop}
use Rattle.view_chart.specs.Axes.{step_in}
use Rattle.view_chart.proofs.axis.step_in.Given as goal

-- none so far
abbrev pub invariant-loop-step : goal.invariant-loop-step
invariant-loop-step l = step_in l.span l.steps ≡ step_in l.span (drop l.step-index l.steps)

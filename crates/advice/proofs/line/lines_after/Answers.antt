use Rattle.std.proofs.Common.{ap, drop, ◌∙◌, List, ℕ}
use Rattle.std.proofs.lemmas.List.{drop-drop}
use Rattle.advice.proofs.line.lines_after.Goals as goal

pub loop-preserved : goal.loop-preserved
loop-preserved c = c.step_over.ensures
    ∙ (ap (λ (ls : List (List ℕ)). drop 1 ls) c.loop.invariant ∙ drop-drop 1 c.loop.counter _)

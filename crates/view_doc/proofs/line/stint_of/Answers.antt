use Rattle.std.proofs.Common.{◌∷◌, [], codes, decimal}
use Rattle.view_doc.specs.Lines.{how_of_holder, word_of_holder}
use Rattle.view_doc.proofs.line.stint_of.Goals as goal

pub returns-in_err-used : goal.returns-in_err-used
returns-in_err-used c = rw c.from_residual-in_err-used.ensures
    (λ t u v held to used seen good is.
    c.in_err-used.ensures u (codes "seen" ∷ decimal v ∷ word_of_holder held ∷ how_of_holder held ∷ []) used
    (cc (c.in_ok-end.ensures.1, c.in_ok-take_word.ensures)))

pub returns-in_err-seen : goal.returns-in_err-seen
returns-in_err-seen c = rw c.from_residual-in_err-seen.ensures
    (λ t u v held to used seen good is.
    c.in_err-seen.ensures v (word_of_holder held ∷ how_of_holder held ∷ []) seen
    (cc (c.in_ok-end.ensures.1, c.in_ok-take_word.ensures, c.in_ok-used.ensures.1, c.in_ok-take_word-2.ensures)))

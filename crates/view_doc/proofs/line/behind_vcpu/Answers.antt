use Rattle.std.proofs.Common.{◌∷◌, [], codes, decimal}
use Rattle.view_doc.proofs.LineLemmas.{behind_six}
use Rattle.view_doc.proofs.line.behind_vcpu.Goals as goal

pub returns-in_err-cost : goal.returns-in_err-cost
returns-in_err-cost c = rw c.from_residual-in_err-cost.ensures
    (λ name t n h good period cost home is.
    c.in_err-cost.ensures n (codes "home" ∷ decimal h ∷ []) cost
    (cc (c.in_ok-name.ensures.1, c.in_ok-take_word.ensures, c.in_ok-period.ensures.1, c.in_ok-take_word-2.ensures)))

pub returns-in_err-home : goal.returns-in_err-home
returns-in_err-home c = rw c.from_residual-in_err-home.ensures
    (λ name t n h good period cost home is. c.in_err-home.ensures h [] home
    (behind_six _ _ _ _ _ _ _ _ _ _ _ _ _ _ _ _ _ _ _ _ c.in_ok-name.ensures.1 c.in_ok-take_word.ensures
    c.in_ok-period.ensures.1 c.in_ok-take_word-2.ensures c.in_ok-cost.ensures.1 c.in_ok-take_word-3.ensures is))

use Rattle.std.proofs.Common.{[]}
use Rattle.view_doc.proofs.line.entry_of.Goals as goal

pub returns-in_err-count : goal.returns-in_err-count
returns-in_err-count c = rw c.from_residual-in_err-count.ensures
    (λ r n low small is. c.in_err-count.ensures n [] small
    (cc (c.in_ok-round.ensures.1, c.in_ok-take_word.ensures)))

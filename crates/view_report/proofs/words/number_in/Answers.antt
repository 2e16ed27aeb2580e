use Rattle.std.proofs.Common.{◌≡◌, arith}
use Rattle.tab_words.proofs.NumberLemmas.{spelled_once}
use Rattle.view_report.proofs.words.number_in.Goals as goal

pub returns-else-number-from : goal.returns-else-number-from
returns-else-number-from c = λ n low is.
    let same : c.in_ok-number.number ≡ n =
    spelled_once c.args.word.now c.in_ok-number.number n c.in_ok-number.ensures.some (omega arith) is in
    omega arith

use Rattle.std.proofs.Common.{◌≡◌, arith}
use Rattle.tab_words.proofs.NumberLemmas.{spelled_once}
use Rattle.tab_words.proofs.number.read_core.Goals as goal

pub returns-else-number-from : goal.returns-else-number-from
returns-else-number-from c = λ core low is.
    let same : c.in_ok-number.number ≡ core =
    spelled_once c.args.word.now c.in_ok-number.number core c.in_ok-number.ensures.some (omega arith) is in
    omega arith

use Rattle.std.proofs.Common.{◌≡◌, arith}
use Rattle.tab_words.proofs.NumberLemmas.{spelled_once}
use Rattle.plan_text.proofs.read_cores.end_of.Goals as goal

pub returns-else-number-from : goal.returns-else-number-from
returns-else-number-from c = λ end low is.
    let same : c.in_ok-number.number ≡ end =
    spelled_once c.args.word.now c.in_ok-number.number end c.in_ok-number.ensures.some (omega arith) is in
    omega arith

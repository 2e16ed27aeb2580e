use Rattle.std.proofs.Common.{arith, ◌≡◌}
use Rattle.tab_words.proofs.NumberLemmas.{spelled_once}
use Rattle.script_doc.proofs.event_reader.number_within.Goals as goal
use Rattle.script_doc.proofs.event_reader.number_within.Goals.{then-number-least-via-then-number-least, then-number-least-via-else-number-least+then-number-most}

pub returns-then-number-least : goal.returns-then-number-least
returns-then-number-least c = λ n low high is.
    let same : c.in_ok-number.number ≡ n =
    spelled_once c.args.word.now c.in_ok-number.number n c.in_ok-number.ensures.some (omega arith) is in
    elim c.then-number-least.branch [
      | then-number-least-via-then-number-least w ↦ omega arith
      | then-number-least-via-else-number-least+then-number-most w ↦ omega arith
    ]

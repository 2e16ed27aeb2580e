use Rattle.std.proofs.Common.{arith, ◌≡◌, ◌<◌, length, get_or}
use Rattle.std.proofs.lemmas.Grind.{common_steps}
use Rattle.tab_words.proofs.NumberLemmas.{read_spelling, spelled_some, spelled_plain}
use Rattle.tab_words.proofs.number.read_number.Goals as goal
use Rattle.tab_words.proofs.number.read_number.Goals.{then-is_empty-via-then-is_empty, then-is_empty-via-else-is_empty+then-has_leading_zero}

pub returns-then-is_empty-clause-none : goal.returns-then-is_empty-clause-none
returns-then-is_empty-clause-none c = λ n spelled.
    let some = spelled_some c.args.bytes.now n spelled in
    let plain = spelled_plain c.args.bytes.now n spelled in
    elim c.then-is_empty.branch [
      | then-is_empty-via-then-is_empty w ↦ grind (arith, common_steps)
      | then-is_empty-via-else-is_empty+then-has_leading_zero w ↦ grind (arith, common_steps)
    ]

pub returns : goal.returns
returns c =
    let some : 0 < length c.args.bytes.now = grind (arith, common_steps) in
    let plain : (1 < length c.args.bytes.now → get_or c.args.bytes.now 0 0 ≡ 48 → ⊥) =
    λ long zero. grind (arith, common_steps) in
    let read = read_spelling c.args.bytes.now c.number_of_digits.result some plain
    c.number_of_digits.ensures in
    record { some = read.0; none = read.1 }

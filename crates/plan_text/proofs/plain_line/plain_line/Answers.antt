use Rattle.std.proofs.Common.{rules}
use Rattle.plan_text.proofs.PlainLineLemmas.{plain_words}
use Rattle.plan_text.proofs.plain_line.plain_line.Goals as goal

pub returns : goal.returns
returns c = plain_words c.args.bytes.now c.split_at.result.1.now c.in-Some.word.now c.in-Some.behind.now
    c.front_number-number.result.1 c.front_number-number.result.0
    c.split_at.ensures.back (search rules) (search rules) (search rules) c.front_number-number.ensures.within
    c.front_number-number.ensures.digits c.front_number-number.ensures.value (search rules)
    (c.is_spelled_so.ensures.some (search rules)) (c.is_spelled_so.ensures.plain (search rules))

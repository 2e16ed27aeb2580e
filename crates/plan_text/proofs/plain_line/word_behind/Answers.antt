use Rattle.std.proofs.Common.{rules}
use Rattle.plan_text.proofs.PlainLineLemmas.{word_before_feed}
use Rattle.plan_text.proofs.plain_line.word_behind.Goals as goal

pub returns : goal.returns
returns c = word_before_feed c.args.bytes.now c.in-Some.rest.now c.in-Some-position.end (search rules)
    (search rules) (search rules) (search rules) (search rules)

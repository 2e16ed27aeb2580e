use Rattle.std.proofs.Common.{rules}
use Rattle.view_doc.proofs.PlainLemmas.{plain_parts}
use Rattle.view_doc.proofs.plain_line.plain_line.Goals as goal

pub returns : goal.returns
returns c = (
  c.in_ok-number.ensures.0,
  plain_parts c.args.line.now _ _ c.in-Some.end c.in_ok-number.number (search rules) (search rules) (search rules)
      (search rules) (search rules) c.in_ok-number.ensures.0 c.in_ok-number.ensures.1,
)

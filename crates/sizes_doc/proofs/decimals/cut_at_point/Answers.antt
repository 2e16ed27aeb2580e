use Rattle.std.proofs.Common.{rules}
use Rattle.sizes_doc.proofs.DecimalLemmas.{cut_first, cut_nowhere}
use Rattle.sizes_doc.proofs.decimals.cut_at_point.Goals as goal

pub returns-in-Some : goal.returns-in-Some
returns-in-Some c = cut_first c.args.bytes.now _ _ c.in-Some.at (search rules) (search rules) (search rules)
    (search rules) (search rules)

pub returns-in-None : goal.returns-in-None
returns-in-None c = λ before after. cut_nowhere c.args.bytes.now before after (search rules)

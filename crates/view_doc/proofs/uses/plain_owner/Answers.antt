use Rattle.std.proofs.Common.{rules}
use Rattle.view_doc.proofs.PlainLemmas.{dash_plain, named_plain}
use Rattle.view_doc.proofs.uses.plain_owner.Goals as goal

pub returns-then-eq : goal.returns-then-eq
returns-then-eq c = dash_plain _ _ (search rules)

pub returns-in-Some : goal.returns-in-Some
returns-in-Some c = named_plain _ _ _ (search rules) (search rules) (search rules)

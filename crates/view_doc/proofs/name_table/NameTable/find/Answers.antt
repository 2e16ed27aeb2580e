use Rattle.view_doc.proofs.NameLemmas.{known_at}
use Rattle.view_doc.proofs.name_table.NameTable.find.Goals as goal

pub returns-in-Some-clause-known : goal.returns-in-Some-clause-known
returns-in-Some-clause-known c = (
  c.in-Some.ensures.0,
  c.in-Some.ensures.1,
  known_at _ _ _ c.in-Some.ensures.0 c.in-Some.ensures.1,
)

use Rattle.view_doc.proofs.OneText.{no_bad_line}
use Rattle.view_doc.proofs.laws.a_text_has_no_bad_line.Goals as goal

pub returns : goal.returns
returns c = no_bad_line

use Rattle.view_doc.proofs.OneText.{one_text}
use Rattle.view_doc.proofs.laws.a_text_says_one_thing.Goals as goal

pub returns : goal.returns
returns c = one_text

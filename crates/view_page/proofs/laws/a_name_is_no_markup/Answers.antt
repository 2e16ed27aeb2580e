use Rattle.view_page.proofs.NameLemmas.{plain_name}
use Rattle.view_page.proofs.laws.a_name_is_no_markup.Goals as goal

pub returns : goal.returns
returns c = plain_name

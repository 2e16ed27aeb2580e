use Rattle.view_export.specs.Chrome.{entry_by}
use Rattle.view_export.proofs.chrome.put_entry_by.Goals as goal

pub returns : goal.returns
unfolding entry_by
returns g c = rw (← c.entry.view_is) c.put_pieces.ensures

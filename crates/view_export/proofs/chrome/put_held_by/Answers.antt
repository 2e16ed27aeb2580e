use Rattle.view_export.specs.Chrome.{holder_event}
use Rattle.view_export.proofs.chrome.put_held_by.Goals as goal

pub returns : goal.returns
unfolding holder_event
returns g c = rw (← c.s.view_is, ← c.holder_name.ensures, ← c.how_text.ensures) c.put_pieces.ensures

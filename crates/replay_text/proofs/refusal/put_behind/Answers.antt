use Rattle.replay_text.proofs.refusal.put_behind.Goals as goal

pub returns-in-Core : goal.returns-in-Core
returns-in-Core g c = rw (c.in-Core.is, ← c.core.view_is) c.put_pieces.ensures

pub returns-in-Controller : goal.returns-in-Controller
returns-in-Controller g c = rw c.in-Controller.is c.put_pieces-in-Controller.ensures

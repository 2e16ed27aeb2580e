use Rattle.std.proofs.lemmas.Bool.{le-leb}
use Rattle.advice.proofs.room.put_remedy.Goals as goal

pub returns-then-demand-room : goal.returns-then-demand-room
returns-then-demand-room g c = rw (le-leb _ _ c.if-demand-room.true) c.write_all.ensures

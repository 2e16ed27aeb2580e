use Rattle.std.proofs.Common.{decimal}
use Rattle.std.proofs.lemmas.List.{append-nil}
use Rattle.advice.proofs.room.put_ticks.Goals as goal

pub returns : goal.returns
returns g c = rw (← append-nil (decimal c.args.room)) c.put_parts.ensures

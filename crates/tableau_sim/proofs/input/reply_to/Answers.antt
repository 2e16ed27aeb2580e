use Rattle.std.proofs.Common.{refl}
use Rattle.tableau_sim.specs.Commands.{LeavesNothing, Replies}
use Rattle.tableau_sim.proofs.ReplyLemmas.{usage_reply}
use Rattle.tableau_sim.proofs.input.reply_to.Goals as goal

pub returns-in-Err : goal.returns-in-Err
returns-in-Err g c = rw c.stopped.ensures
    (usage_reply Replies LeavesNothing _ _ c.in-Err.usage.place (c.in-Err.ensures.usage c.in-Err.usage.place refl) (tt {0}))

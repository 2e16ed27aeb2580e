use Rattle.tableau_sim.specs.Commands.{LeavesNothing, Replies}
use Rattle.tableau_sim.proofs.ReplyLemmas.{ended_of}
use Rattle.tableau_sim.proofs.call.answer_still.Goals as goal

pub returns : goal.returns
returns g c = ended_of Replies LeavesNothing _ _ _ _ _ _ _ _ c.reply_to-reply.ensures c.write_reply.ensures.written
    c.write_reply.ensures.host

use Rattle.std.proofs.Common.{[], refl, subst}
use Rattle.tab_words.specs.Commands.{IsCommand}
use Rattle.tab_words.specs.Sections.{sections_of}
use Rattle.tab_words.specs.declared.command.Command.TheVariants as called
use Rattle.tableau_sim.specs.Commands.{LeavesNothing, Replies}
use Rattle.tableau_sim.specs.Inside.Reply.{Makes}
use Rattle.tableau_sim.specs.Sections.{host_section}
use Rattle.tableau_sim.proofs.ReplyLemmas.{input_reply, input_still, no_input_reply, reads_unless, unread_reply}
use Rattle.tableau_sim.proofs.input.reply_of.Goals as goal

pub returns-in-Help : goal.returns-in-Help
returns-in-Help g c words are =
    unread_reply Replies LeavesNothing words _ called.Help _ (subst (IsCommand words) c.in-Help.is are) refl
    (λ lacks. absurd cc) (refl, tt {0})

pub returns-in-Version : goal.returns-in-Version
returns-in-Version g c words are =
    unread_reply Replies LeavesNothing words _ called.Version _ (subst (IsCommand words) c.in-Version.is are) refl
    (λ lacks. absurd cc) (refl, tt {0})

pub returns-in-Gen : goal.returns-in-Gen
returns-in-Gen g c words are =
    unread_reply Replies LeavesNothing words _ (called.Gen c.in-Gen.seed c.in-Gen.cores c.in-Gen.vcpus) _
    (subst (IsCommand words) c.in-Gen.is are) refl (λ lacks. (refl, tt {0}))
    (c.gen_reply.ensures (host_section (sections_of [])))

pub returns-in-Ok : goal.returns-in-Ok
returns-in-Ok g c words are =
    input_reply Replies LeavesNothing words _ _ c.args.command _ _ are
    (reads_unless c.args.command c.requires.still c.in_default.not-Help c.in_default.not-Version
    c.in_default.not-Gen)
    (input_still _ _ _ _ _ c.take_back.ensures.same refl c.in-Ok.ensures.ok) (λ lacks. tt {0})
    (subst (λ i. Makes (Replies c.args.command i) (host_section (sections_of i)) c.reply_to_input-reply.result) c.deref.ensures.value
    c.reply_to_input-reply.ensures)

pub returns-in-Err : goal.returns-in-Err
returns-in-Err g c words are =
    no_input_reply Replies LeavesNothing words _ _ c.args.command _ are
    (reads_unless c.args.command c.requires.still c.in_default.not-Help c.in_default.not-Version
    c.in_default.not-Gen) (λ due part. tt {0}) c.in-Err.ensures.stop

use Rattle.std.proofs.Common.{subst, rules}
use Rattle.tab_words.specs.Commands.{IsCommand, texts}
use Rattle.tableau_sim.specs.Commands.{AreStill}
use Rattle.tableau_sim.proofs.SeatsLemmas.{ended_with_seat, still_words}
use Rattle.tableau_sim.proofs.call.answer.Goals as goal

pub returns-in-Ok-Run-clause-answers : goal.returns-in-Ok-Run-clause-answers
returns-in-Ok-Run-clause-answers g c = c.run.ensures.answers (texts c.args.words.now)
    (subst (IsCommand (texts c.args.words.now)) c.in-Ok-Run.field-0-is c.in-Ok-Run.ensures.ok)

pub returns-in-Ok-Selftest-clause-answers : goal.returns-in-Ok-Selftest-clause-answers
returns-in-Ok-Selftest-clause-answers g c = c.selftest.ensures.answers (texts c.args.words.now) _
    (subst (IsCommand (texts c.args.words.now)) c.in-Ok-Selftest.field-0-is c.in-Ok-Selftest.ensures.ok)

pub returns-in_default-clause-answers : goal.returns-in_default-clause-answers
returns-in_default-clause-answers g c =
    let still : AreStill (texts c.args.words.now) = still_words (texts c.args.words.now) c.read_words.result
    c.read_words.ensures.due (search rules) (search rules) in
    ended_with_seat c.args.seat.view (texts c.args.words.now) _ _ _ _ c.answer_still-status.result.0
    c.answer_still-status.result.1 still c.answer_still-status.ensures

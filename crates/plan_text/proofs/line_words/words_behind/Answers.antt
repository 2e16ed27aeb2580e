use Rattle.std.proofs.Common.{rules, [], subst}
use Rattle.tab_words.specs.Words.{words_of}
use Rattle.plan_text.proofs.LineWordLemmas.{GoesOn, word_lacks}
use Rattle.plan_text.proofs.line_words.words_behind.Goals as goal

pub returns-in_default : goal.returns-in_default
returns-in_default c =
    let goes : GoesOn (words_of c.args.line.now) c.args.expected.now [] c.loop-piece.piece-index =
    subst (λ left. GoesOn (words_of c.args.line.now) c.args.expected.now left c.loop-piece.piece-index)
    c.in_default.ensures.steps.0 c.loop-piece.invariant in
    word_lacks _ _ _ (search rules) goes

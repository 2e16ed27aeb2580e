use Rattle.tab_words.specs.Words.{words_of}
use Rattle.plan_text.proofs.LineWordLemmas.{GoesOn}
use Rattle.plan_text.proofs.line_words.words_behind.Given as goal

abbrev pub invariant-loop-piece : goal.invariant-loop-piece
invariant-loop-piece l = GoesOn (words_of l.line) l.expected l.words l.piece-index

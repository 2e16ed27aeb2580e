use Rattle.choice_words.proofs.BitsLemmas.{has_by_word}
use Rattle.choice_words.proofs.has.Goals as goal

pub returns-then-number-lt-NOBODY : goal.returns-then-number-lt-NOBODY
returns-then-number-lt-NOBODY c =
    has_by_word c.args.words.now c.args.number c.word_of.result c.if-number-lt-NOBODY.true c.word_of.ensures

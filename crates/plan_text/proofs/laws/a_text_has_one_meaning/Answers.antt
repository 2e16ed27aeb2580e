use Rattle.tab_words.specs.Texts.{worded}
use Rattle.plan_text.proofs.OneMeaning.{one_meaning}
use Rattle.plan_text.proofs.laws.a_text_has_one_meaning.Goals as goal

pub returns : goal.returns
returns c = λ names cores tasks bytes raw other good many few is also.
    one_meaning names cores tasks (worded bytes) raw other many few good is also

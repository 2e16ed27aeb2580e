use Rattle.std.proofs.Common.{rules}
use Rattle.round_words.proofs.NumbersLemmas.{agree_without, agree_only}
use Rattle.round_words.proofs.numbers.Numbers.give.Goals as goal

pub returns-clause-kept : goal.returns-clause-kept
returns-clause-kept c = λ v is.
    agree_without c.args.actors c.args.self.now _ v (search rules) (search rules) (search rules) (search rules) (search rules)
    (c.forget_others-2.ensures.floor, c.forget_others-2.ensures.held, c.forget_others-2.ensures.others) (search rules) (search rules) is

pub returns-clause-given : goal.returns-clause-given
returns-clause-given c =
    λ v has is. agree_only c.args.actors c.args.self.now _ v has (search rules) (search rules) (search rules)
    (c.forget_others.ensures.floor, c.forget_others.ensures.held, c.forget_others.ensures.others) (search rules) (search rules) is

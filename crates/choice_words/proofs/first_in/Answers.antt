use Rattle.std.proofs.Common.{arith, inl, inr, refl, rules}
use Rattle.choice_words.proofs.BitsLemmas.{least_left, none_beyond, none_left}
use Rattle.choice_words.proofs.first_in.Goals as goal

pub returns-then-skip-ge64 : goal.returns-then-skip-ge64
returns-then-skip-ge64 c =
    inr (refl, none_beyond c.args.word c.args.base c.args.from c.saturating_sub-skip.result (search rules) (search rules))

pub returns-then-rest-eq0 : goal.returns-then-rest-eq0
returns-then-rest-eq0 c =
    inr (refl, none_left c.args.word c.args.base c.args.from c.saturating_sub-skip.result (search rules) (search rules))

pub returns : goal.returns
returns c =
    let least = least_left c.args.word c.args.base c.args.from c.saturating_sub-skip.result (search rules) (search rules)
    (search rules) in
    inl (omega (arith, least.holds.high, c.requires), least)

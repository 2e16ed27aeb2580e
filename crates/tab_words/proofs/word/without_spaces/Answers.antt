use Rattle.std.proofs.Common.{arith, rules, length, ap, sym, ◌∙◌}
use Rattle.std.proofs.lemmas.List.{take_rest, drop_all}
use Rattle.tab_words.specs.Words.{words_of}
use Rattle.tab_words.proofs.WordLemmas.{words_after_spaces}
use Rattle.tab_words.proofs.word.without_spaces.Goals as goal

pub returns-in-Some-clause-words : goal.returns-in-Some-clause-words
returns-in-Some-clause-words c =
    ap words_of (take_rest c.args.line.now c.in-Some.start)
    ∙ words_after_spaces c.args.line.now c.in-Some.start (search rules) (search rules)

pub returns-in-None-clause-words : goal.returns-in-None-clause-words
returns-in-None-clause-words c =
    ap words_of (sym (drop_all (length c.args.line.now) c.args.line.now (omega arith)))
    ∙ words_after_spaces c.args.line.now (length c.args.line.now) (omega arith) (search rules)

use Rattle.std.proofs.Common.{rules}
use Rattle.tab_words.proofs.WordLemmas.{first_word, one_word}
use Rattle.tab_words.proofs.word.first_word.Goals as goal

pub returns-in-Some : goal.returns-in-Some
returns-in-Some c =
    rw (c.split_at.ensures.front, c.split_at.ensures.back) (first_word c.args.line.now c.in-Some.end
    (search rules) (search rules) (search rules) c.requires.first)

pub returns-in-None : goal.returns-in-None
returns-in-None c = one_word c.args.line.now c.requires.some (search rules)

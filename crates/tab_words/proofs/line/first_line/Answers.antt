use Rattle.std.proofs.Common.{add-one, rules}
use Rattle.tab_words.proofs.LineLemmas.{first_line, one_line}
use Rattle.tab_words.proofs.line.first_line.Goals as goal

pub returns-in-Some-clause-lines : goal.returns-in-Some-clause-lines
returns-in-Some-clause-lines c =
    rw (c.split_at.ensures.front, c.split_at.ensures.back, add-one)
    (first_line c.args.bytes.now c.in-Some.end (search rules) (search rules) (search rules))

pub returns-in-None-clause-lines : goal.returns-in-None-clause-lines
returns-in-None-clause-lines c = one_line c.args.bytes.now c.requires (search rules)

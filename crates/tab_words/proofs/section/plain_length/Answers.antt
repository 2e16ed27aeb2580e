use Rattle.tab_words.proofs.FrontLemmas.{plain_all, plain_before}
use Rattle.tab_words.proofs.section.plain_length.Goals as goal

pub returns-in-Some-clause-sections : goal.returns-in-Some-clause-sections
returns-in-Some-clause-sections c =
    rw c.saturating_sub.ensures (plain_before c.args.bytes.now c.in-Some.place c.in-Some.ensures.0)

pub returns-in-None-clause-sections : goal.returns-in-None-clause-sections
returns-in-None-clause-sections c = plain_all c.args.bytes.now c.in-None.ensures

use Rattle.table_check.proofs.MarkedWords.{ones_above, ones_below, ones_inside}
use Rattle.table_check.proofs.marks.ones_between.Goals as goal

pub returns-clause-below : goal.returns-clause-below
returns-clause-below c = λ i. ones_below c.args.from c.args.to i c.requires.rises c.requires.within

pub returns-clause-inside : goal.returns-clause-inside
returns-clause-inside c = λ i. ones_inside c.args.from c.args.to i c.requires.rises c.requires.within

pub returns-clause-above : goal.returns-clause-above
returns-clause-above c = λ i. ones_above c.args.from c.args.to i c.requires.rises c.requires.within

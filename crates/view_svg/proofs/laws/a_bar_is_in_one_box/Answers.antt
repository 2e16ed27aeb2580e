use Rattle.view_svg.proofs.BoxedLemmas.{all_alone, boxes_in_turn, in_one_box, same_ticks, seamless}
use Rattle.view_svg.proofs.laws.a_bar_is_in_one_box.Goals as goal

pub returns-clause-alone : goal.returns-clause-alone
returns-clause-alone c = all_alone

pub returns-clause-one : goal.returns-clause-one
returns-clause-one c = in_one_box

pub returns-clause-apart : goal.returns-clause-apart
returns-clause-apart c = boxes_in_turn

pub returns-clause-ticks : goal.returns-clause-ticks
returns-clause-ticks c = same_ticks

pub returns-clause-whole : goal.returns-clause-whole
returns-clause-whole c = seamless

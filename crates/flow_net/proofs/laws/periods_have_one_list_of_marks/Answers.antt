use Rattle.flow_net.proofs.Marking.{marks_unique}
use Rattle.flow_net.proofs.laws.periods_have_one_list_of_marks.Goals as goal

pub returns : goal.returns
returns c = marks_unique

use Rattle.tableau_sim.proofs.ClausesLemmas.{cause_told, complete_told, front_told, line_told, read_fault_told, silent_told, too_long_told, usage_due, usage_told, wrote_told}
use Rattle.tableau_sim.proofs.OutcomesLemmas.{refuses_input, writes_unread}
use Rattle.tableau_sim.specs.Commands.{LeavesNothing, Replies}
use Rattle.tableau_sim.proofs.call.tableau_still.Goals as goal

pub returns-clause-answers : goal.returns-clause-answers
returns-clause-answers g c = c.answer_still-status.ensures.answers

pub returns-clause-wrote : goal.returns-clause-wrote
returns-clause-wrote g c = wrote_told Replies LeavesNothing refuses_input _ _ _ _ _ _ c.answer_still-status.ensures.answers

pub returns-clause-refused : goal.returns-clause-refused
returns-clause-refused g c = cause_told Replies LeavesNothing _ _ _ _ _ _ c.answer_still-status.ensures.answers

pub returns-clause-complete : goal.returns-clause-complete
returns-clause-complete g c = complete_told Replies LeavesNothing _ _ _ _ _ _ c.answer_still-status.ensures.answers

pub returns-clause-unread : goal.returns-clause-unread
returns-clause-unread g c = silent_told Replies LeavesNothing writes_unread _ _ _ _ _ _ c.answer_still-status.ensures.answers

pub returns-clause-usage : goal.returns-clause-usage
returns-clause-usage g c = usage_told Replies LeavesNothing refuses_input _ _ _ _ _ _ c.answer_still-status.ensures.answers

pub returns-clause-usage_due : goal.returns-clause-usage_due
returns-clause-usage_due g c = usage_due Replies LeavesNothing _ _ _ _ _ _ c.answer_still-status.ensures.answers

pub returns-clause-read_fault : goal.returns-clause-read_fault
returns-clause-read_fault g c = read_fault_told Replies LeavesNothing refuses_input _ _ _ _ _ _ c.answer_still-status.ensures.answers

pub returns-clause-too_long : goal.returns-clause-too_long
returns-clause-too_long g c = too_long_told Replies LeavesNothing refuses_input _ _ _ _ _ _ c.answer_still-status.ensures.answers

pub returns-clause-write_fault : goal.returns-clause-write_fault
returns-clause-write_fault g c = front_told Replies LeavesNothing refuses_input _ _ _ _ _ _ c.answer_still-status.ensures.answers

pub returns-clause-refusal : goal.returns-clause-refusal
returns-clause-refusal g c = line_told Replies LeavesNothing _ _ _ _ _ _ c.answer_still-status.ensures.answers

use Rattle.replay_text.proofs.refusal.put_step_fault.Goals as goal

pub returns-in-Done : goal.returns-in-Done
returns-in-Done g c = rw c.in-Done.is c.put_end.ensures

pub returns-in-Behind : goal.returns-in-Behind
returns-in-Behind g c = rw c.in-Behind.is c.put_behind.ensures

pub returns-in-NotNow : goal.returns-in-NotNow
returns-in-NotNow g c = rw c.in-NotNow.is c.put_end-in-NotNow.ensures

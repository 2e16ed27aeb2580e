use Rattle.advice.proofs.script_lines.put_script.Goals as goal

pub returns-in-BadLine : goal.returns-in-BadLine
returns-in-BadLine g c = rw c.in-BadLine.is c.put_bad_line.ensures

pub returns-in-UnknownName : goal.returns-in-UnknownName
returns-in-UnknownName g c = rw c.in-UnknownName.is c.put_script_line.ensures

pub returns-in-OutOfOrder : goal.returns-in-OutOfOrder
returns-in-OutOfOrder g c = rw c.in-OutOfOrder.is c.put_script_line-in-OutOfOrder.ensures

pub returns-in-LateEvent : goal.returns-in-LateEvent
returns-in-LateEvent g c = rw c.in-LateEvent.is c.put_script_line-in-LateEvent.ensures

pub returns-in-TooManyEvents : goal.returns-in-TooManyEvents
returns-in-TooManyEvents g c = rw c.in-TooManyEvents.is c.put_script_line-in-TooManyEvents.ensures

pub returns-in-TooManyChanges : goal.returns-in-TooManyChanges
returns-in-TooManyChanges g c = rw c.in-TooManyChanges.is c.put_script_line-in-TooManyChanges.ensures

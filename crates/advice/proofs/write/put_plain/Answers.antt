use Rattle.advice.proofs.write.put_plain.Goals as goal

pub returns-in-Usage : goal.returns-in-Usage
returns-in-Usage g c = rw c.in-Usage.is c.put_usage.ensures

pub returns-in-BadSections : goal.returns-in-BadSections
returns-in-BadSections g c = rw c.in-BadSections.is c.put_sections.ensures

pub returns-in-NoFit : goal.returns-in-NoFit
returns-in-NoFit g c = rw c.in-NoFit.is c.put_room.ensures

pub returns-in-BadShape : goal.returns-in-BadShape
returns-in-BadShape g c = rw c.in-BadShape.is c.put_shape.ensures

pub returns-in-Twice : goal.returns-in-Twice
returns-in-Twice g c = rw c.in-Twice.is c.put_twice.ensures

pub returns-in-Short : goal.returns-in-Short
returns-in-Short g c = rw c.in-Short.is c.put_short.ensures

pub returns-in-Script : goal.returns-in-Script
returns-in-Script g c = rw (c.in-Script.is, ← c.section_at.ensures) c.put_script.ensures

pub returns-in-BadStep : goal.returns-in-BadStep
returns-in-BadStep g c = rw (c.in-BadStep.is, ← c.section_at-in-BadStep.ensures) c.put_bad_step.ensures

pub returns-in-NotNow : goal.returns-in-NotNow
returns-in-NotNow g c = rw (c.in-NotNow.is, ← c.section_at-in-NotNow.ensures) c.put_due.ensures

pub returns-in-Behind : goal.returns-in-Behind
returns-in-Behind g c = rw (c.in-Behind.is, ← c.section_at-in-Behind.ensures) c.put_waits.ensures

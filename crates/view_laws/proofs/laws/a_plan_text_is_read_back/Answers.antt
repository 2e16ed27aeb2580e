use Rattle.view_laws.proofs.PlanReadBack.{plan_told_by, plan_shown, plan_has_no_bad_line, plan_short, plan_ticks_shown}
use Rattle.view_laws.proofs.laws.a_plan_text_is_read_back.Goals as goal

pub returns-clause-told : goal.returns-clause-told
returns-clause-told c = plan_told_by

pub returns-clause-shown : goal.returns-clause-shown
returns-clause-shown c = plan_shown

pub returns-clause-no_bad_line : goal.returns-clause-no_bad_line
returns-clause-no_bad_line c = plan_has_no_bad_line

pub returns-clause-ticks : goal.returns-clause-ticks
returns-clause-ticks c = plan_ticks_shown

pub returns-clause-short : goal.returns-clause-short
returns-clause-short c = plan_short

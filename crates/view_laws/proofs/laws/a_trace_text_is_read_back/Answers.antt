use Rattle.view_laws.proofs.TraceReadBack.{trace_told_by, trace_shown, trace_has_no_bad_line}
use Rattle.view_laws.proofs.laws.a_trace_text_is_read_back.Goals as goal

pub returns-clause-told : goal.returns-clause-told
returns-clause-told c = trace_told_by

pub returns-clause-shown : goal.returns-clause-shown
returns-clause-shown c = trace_shown

pub returns-clause-no_bad_line : goal.returns-clause-no_bad_line
returns-clause-no_bad_line c = trace_has_no_bad_line

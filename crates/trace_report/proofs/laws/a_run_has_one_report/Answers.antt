use Rattle.trace_report.proofs.OneReport.{one_report_of}
use Rattle.trace_report.proofs.laws.a_run_has_one_report.Goals as goal

pub returns : goal.returns
returns c = one_report_of

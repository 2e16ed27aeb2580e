use Rattle.run_counts.proofs.OneReport.{one_report}
use Rattle.run_counts.proofs.laws.a_report_is_determined.Goals as goal

pub returns : goal.returns
returns c = one_report

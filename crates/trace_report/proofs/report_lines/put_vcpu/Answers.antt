use Rattle.trace_report.specs.ReportText.{vcpu_line}
use Rattle.trace_report.proofs.report_lines.put_vcpu.Goals as goal

pub returns : goal.returns
unfolding vcpu_line
returns g c = rw (← c.bytes.ensures.same) c.put_line.ensures

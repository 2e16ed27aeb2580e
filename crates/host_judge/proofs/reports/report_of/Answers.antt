use Rattle.std.proofs.Common.{refl}
use Rattle.host_judge.proofs.ReportLemmas.{report_told}
use Rattle.host_judge.proofs.reports.report_of.Goals as goal

pub returns : goal.returns
returns c = record {
  told = λ marks is.
      report_told marks c.args.tracker c.settle.new.self c.args.reservation.now c.args.owed c.args.end_ns c.args.window_ns _
      c.requires.some is
      c.in_ok-settle.ensures.settled c.requires.terms c.settle.ensures.terms refl refl refl refl c.late_of.ensures
      c.share_in.ensures c.owed_in.ensures c.are_waits_kept.ensures c.is_share_kept.ensures;
}

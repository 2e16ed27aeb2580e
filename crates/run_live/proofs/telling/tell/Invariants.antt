use Rattle.std.proofs.Common.{◌≡◌, length}
use Rattle.std.specs.Prelude.{take}
use Rattle.trace_report.specs.RunReports.{IsReportSoFar}
use Rattle.run_live.specs.Inside.Telling.{accounts_of, live_first_used}
use Rattle.run_live.proofs.telling.tell.Given as goal

-- the report has the accounts of the cores so far
abbrev pub invariant-loop-core : goal.invariant-loop-core
invariant-loop-core l = record {
  so_far : IsReportSoFar l.fn.course (live_first_used l.fn.actors) (take l.core (accounts_of l.fn.actors)) l.report;
  size : length (take l.core (accounts_of l.fn.actors)) ≡ l.core;
  added : l.report.added ≡ l.core;
}

use Rattle.std.proofs.Common.{◌≡◌, length}
use Rattle.trace_report.specs.RunReports.{IsReportSoFar}
use Rattle.run_course.specs.Inside.Telling.{accounts_below, first_used}
use Rattle.run_course.proofs.telling.tell.Given as goal

-- the report has the accounts of the cores so far
abbrev pub invariant-loop-core : goal.invariant-loop-core
invariant-loop-core l = record {
  so_far : IsReportSoFar l.fn.crew.course (first_used l.fn.crew) (accounts_below l.fn.crew l.core) l.report;
  size : length (accounts_below l.fn.crew l.core) ≡ l.core;
  added : l.report.added ≡ l.core;
}

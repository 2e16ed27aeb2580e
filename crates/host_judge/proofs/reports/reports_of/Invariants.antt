use Rattle.std.proofs.Common.{◌≡◌, ◌++◌, length}
use Rattle.host_judge.specs.Inside.Reported.{AreReports}
use Rattle.host_judge.proofs.reports.reports_of.Given as goal

abbrev pub invariant-loop-tracker : goal.invariant-loop-tracker
invariant-loop-tracker l = record {
  many : length l.reports.items ≡ length l.yielded;
  whole : l.fn.trackers.items ≡ l.yielded ++ l.tracker-iterator.rest.items;
  each : AreReports l.window_ns l.fn.trackers.items l.vcpus l.owed l.end_ns l.reports.items;
}

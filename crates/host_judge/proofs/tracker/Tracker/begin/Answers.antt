use Rattle.std.proofs.Common.{refl}
use Rattle.host_judge.proofs.TrackerLemmas.{tracked_begun}
use Rattle.host_judge.proofs.tracker.Tracker.begin.Goals as goal

pub returns-clause-tracked : goal.returns-clause-tracked
returns-clause-tracked c =
    tracked_begun _ refl refl refl c.no_times.ensures.run c.no_times.ensures.wait c.no_times.ensures.block
    c.no_waits.ensures.current c.no_waits.ensures.longest c.no_waits.ensures.late c.begin.ensures.counted

-- A state that keeps the invariant keeps all promises of a run.
use Rattle.std.proofs.Common.{ℕ}
use Rattle.table_form.specs.Running.Courses.{CourseView, IsCourse}
use Rattle.table_form.specs.Running.Invariant.{StateInvariant}
use Rattle.table_form.specs.Promises.Run.{KeepsPromises}
use Rattle.table_form.specs.Running.State.{State}
use Rattle.run_promises.proofs.BusyLemmas.{is_busy}
use Rattle.run_promises.proofs.CappedLemmas.{keeps_caps}
use Rattle.run_promises.proofs.GapLemmas.{short_gaps}
use Rattle.run_promises.proofs.ServedLemmas.{served}
use Rattle.run_promises.proofs.TogetherLemmas.{one_core}

-- each promise by its own lemma; those of offers follow from the course alone
pub promised : (course : CourseView) (rounds : ℕ) (s : State) → IsCourse course
    → StateInvariant course rounds s → KeepsPromises course rounds s
promised course rounds s ok kept = record {
  invariant = kept;
  one_table = kept.table;
  one_core = one_core course rounds s ok kept;
  served = served course s ok;
  short_gaps = short_gaps course s ok;
  work_conserving = is_busy course rounds s ok kept;
  caps = keeps_caps course rounds s ok kept;
}

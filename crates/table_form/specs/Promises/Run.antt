-- What a run promises, of the rounds that were entered and the ticks that stints cover.
-- Source: the rules of this project.
use Rattle.std.specs.Prelude.{ℕ}
use Rattle.table_form.specs.Promises.Busy.{IsBusy}
use Rattle.table_form.specs.Promises.Capped.{KeepsCaps}
use Rattle.table_form.specs.Running.Courses.{CourseView}
use Rattle.table_form.specs.Running.Invariant.{StateInvariant}
use Rattle.table_form.specs.Promises.Gaps.{HasShortGaps}
use Rattle.table_form.specs.Promises.Offered.{IsServed}
use Rattle.table_form.specs.Promises.OneTable.{HasOneTable}
use Rattle.table_form.specs.Running.State.{State}
use Rattle.table_form.specs.Promises.Together.{RunsOnOneCore}

-- all cores use one plan in a round; no vCPU runs on two cores at one tick; each vCPU in a round's
-- plan is offered its cost in every period there, and waits no longer between offers than its
-- budgets leave out; no core idles while somebody may run there whom it has seen runnable, by a count
-- that is recent enough; and a capped vCPU runs at no more ticks of each of its periods than its cost
pub record KeepsPromises (course : CourseView) (rounds : ℕ) (s : State) : Type 0 where
  pub invariant : StateInvariant course rounds s
  pub one_table : HasOneTable s
  pub one_core : RunsOnOneCore s
  pub served : IsServed course s
  pub short_gaps : HasShortGaps course s
  pub work_conserving : IsBusy course s
  pub caps : KeepsCaps course s

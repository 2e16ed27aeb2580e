-- An event is posted, and a core sees how many are.
-- Source: the rules of this project.
use Rattle.std.specs.Prelude.{◌≡◌, ◌≢◌, ℕ, ◌+◌, ◌<◌, Some, None, length, slice_set}
use Rattle.table_form.specs.Running.Courses.{CourseView, tick_at}
use Rattle.table_form.specs.Running.Phases.{at_end, phase_of}
use Rattle.table_form.specs.Running.State.{State, CoreState, IsCore}
use Rattle.table_form.specs.Running.Waiting.{AreWithinLag}
use Rattle.table_form.specs.Promises.Fresh.{HasUpTo}

-- Post: the next event is posted, if its tick is at most every clock plus the lag
pub record Posts (course : CourseView) (old new : State) : Type 0 where
  pub due : old.posted < length course.ticks
  pub near : AreWithinLag course.lag old.cores None (tick_at course old.posted)
  pub becomes : new ≡ record old { posted = old.posted + 1 }

-- See: the core takes the posted count, if that has every event of tick at most its clock less the lag
pub record Sees (course : CourseView) (rounds c : ℕ) (old new : State) : Type 0 where
  pub core : CoreState
  pub at : IsCore old c core
  pub due : phase_of rounds core ≢ at_end
  pub has : HasUpTo course old.posted core.clock
  pub becomes : new ≡ record old { cores = slice_set old.cores c (record core { seen = Some old.posted }) }

-- A core runs a stint.
-- Source: the rules of this project.
use Rattle.std.specs.Prelude.{◌≡◌, ℕ, [], ◌∷◌, ◌++◌, Some, None, slice_get, slice_set}
use Rattle.tab_core.specs.declared.entry.Entry.{Entry}
use Rattle.tab_core.specs.declared.stint.Stint.{Stint}
use Rattle.table_form.specs.Running.Choice.{IsDispatch}
use Rattle.table_form.specs.Running.Courses.{CourseView}
use Rattle.table_form.specs.Running.Phases.{to_run, phase_of, round_of}
use Rattle.table_form.specs.Running.State.{State, CoreState, IsCore}
use Rattle.table_form.specs.Running.Waiting.{AreWithinLag}

-- the stint that the core would run now, by the count that it has seen and the count of its round
pub record IsNextStint (course : CourseView) (rounds c : ℕ) (core : CoreState) (s : Stint) : Type 0 where
  pub due : phase_of rounds core ≡ to_run
  pub has_seen : core.seen ≡ Some s.seen
  pub entry : Entry
  pub entered : slice_get core.entries (round_of core) ≡ Some entry
  pub uses : s.used ≡ entry.used
  pub from : s.from ≡ core.clock
  pub follows : IsDispatch course c core.stints s

-- a core with one more stint: its clock is at the stint's end, and it has seen nothing since
abbrev pub runs : CoreState → Stint → CoreState
runs core s = record core { clock = s.end; seen = None; stints = core.stints ++ s ∷ [] }

-- Run: the core runs its next stint, if every other clock is at least the stint's end less the lag
pub record RunsNextStint (course : CourseView) (rounds c : ℕ) (old new : State) : Type 0 where
  pub core : CoreState
  pub at : IsCore old c core
  pub stint : Stint
  pub next : IsNextStint course rounds c core stint
  pub near : AreWithinLag course.lag old.cores (Some c) stint.end
  pub becomes : new ≡ record old { cores = slice_set old.cores c (runs core stint) }

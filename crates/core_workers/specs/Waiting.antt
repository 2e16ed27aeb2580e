-- When the actors whose parts a view holds are at rest: they have finished, or wait by what they did last.
-- Source: the rules of this project.
use Rattle.std.specs.Prelude.{◌≡◌, ◌≢◌, ◌⊎◌, ℕ, ◌+◌, ◌<◌, ◌≤◌, true, length}
use Rattle.tab_core.specs.declared.stint.Stint.{Stint}
use Rattle.table_form.specs.Running.Courses.{CourseView, tick_at}
use Rattle.round_words.specs.declared.view.Part.{Part}
use Rattle.round_words.specs.declared.view.View.{View}
use Rattle.round_words.specs.Shown.{HoldsCore}
use Rattle.round_words.specs.Views.{controller, holds, part, hears, sees}
use Rattle.crew_turns.specs.Going.{GoesOnTo}
use Rattle.dispatch_core.specs.Told.{ComesNext}
use Rattle.core_workers.specs.Views.{CrewView}
use Rattle.core_workers.specs.Crews.{CoresFinished, IsAllPosted}

-- the last that core c did since v was to see a count, which leaves out an event of tick at most the core's
-- clock less the lag
pub record AwaitsEvent (course : CourseView) (c : ℕ) (v w : View) : Type 0 where
  pub before : Part
  pub since : GoesOnTo (part v c) before
  pub count : ℕ
  pub saw : part w c ≡ sees before count
  pub some : count < length course.ticks
  pub due : tick_at course count + course.lag ≤ (part w c).clock
  pub exact : holds w controller ≡ true → count ≡ length (part w controller).floors

-- the last that actor a did since v was to hear another core's clock, which is below the tick less the lag
pub record AwaitsCore (course : CourseView) (a tick : ℕ) (v w : View) : Type 0 where
  pub before : Part
  pub since : GoesOnTo (part v a) before
  pub core : ℕ
  pub within : core < course.cores
  pub other : core ≢ a
  pub clock : ℕ
  pub heard : part w a ≡ hears before core clock
  pub low : clock + course.lag < tick
  pub exact : holds w core ≡ true → clock ≡ (part w core).clock

-- core c has seen a count at its clock, and waits for another core with the stint that comes next
pub record AwaitsOther (course : CourseView) (c : ℕ) (v w : View) : Type 0 where
  pub stint : Stint
  pub next : ComesNext course c (part w c) stint
  pub seen : 0 < length (part w c).sights
  pub awaits : AwaitsCore course c stint.end v w

-- core c waits: for an event, or for another core
abbrev pub CoreWaits : CourseView → ℕ → View → View → Type 0
CoreWaits course c v w = AwaitsEvent course c v w ⊎ AwaitsOther course c v w

-- one of the cores that are held waits, and none of them has a lower clock
pub record LeastCoreWaits (course : CourseView) (v w : View) : Type 0 where
  pub core : ℕ
  pub held : HoldsCore w core
  pub least : (d : ℕ) → HoldsCore w d → (part w core).clock ≤ (part w d).clock
  pub waits : CoreWaits course core v w

-- the controller, which has posted n events, waits for a core with the next one
pub record LeadWaits (course : CourseView) (n : ℕ) (v w : View) : Type 0 where
  pub some : n < length course.ticks
  pub awaits : AwaitsCore course controller (tick_at course n) v w

-- The actors whose parts are held are at rest in w, after steps that began in v: the cores have finished or
-- one of least clock waits, and the controller has posted all events or waits
pub record IsCrewAtRest (crew : CrewView) (v w : View) : Type 0 where
  pub cores : CoresFinished crew w ⊎ LeastCoreWaits crew.course v w
  pub control : holds w controller ≡ true → IsAllPosted crew ⊎ LeadWaits crew.course crew.control.posted v w

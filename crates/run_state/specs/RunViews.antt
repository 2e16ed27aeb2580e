-- A view of a whole board in a run, and one in a finished run.
-- Source: the rules of this project.
use Rattle.std.specs.Prelude.{◌≡◌, ℕ, ◌*◌, ◌<◌, true, length}
use Rattle.tab_core.specs.declared.TheConstants.{ROUND}
use Rattle.table_form.specs.Running.Courses.{CourseView, outline_of}
use Rattle.round_words.specs.declared.view.View.{View}
use Rattle.round_words.specs.Shown.{ViewInvariant}
use Rattle.round_words.specs.Views.{controller, holds, part}
use Rattle.dispatch_core.specs.Parts.{IsOfOutline, IsPartOf}
use Rattle.plan_switch.specs.Controllers.{AreFloorsOf}

-- the view holds the part of each core, and the controller's
pub record HoldsAllParts (v : View) : Type 0 where
  pub cores : (c : ℕ) → c < v.cores → holds v c ≡ true
  pub controller : holds v controller ≡ true

-- The view holds all parts of a board that was started for the course, each core's part is one of a run of
-- so many rounds, and the controller's has the floors of the first events. What every view shows by the
-- board's rule, this one shows too
pub record IsRunView (course : CourseView) (rounds : ℕ) (v : View) : Type 0 where
  pub started : IsOfOutline (outline_of course) v
  pub all : HoldsAllParts v
  pub shown : ViewInvariant v
  pub cores : (c : ℕ) → c < v.cores → IsPartOf course rounds c (part v c)
  pub floors : AreFloorsOf (outline_of course) (part v controller).floors

-- every clock is at the run's end, and every event is posted
pub record IsFinished (rounds : ℕ) (v : View) : Type 0 where
  pub clocks : (c : ℕ) → c < v.cores → (part v c).clock ≡ rounds * ROUND
  pub posted : length (part v controller).floors ≡ v.events

-- The actors of a run, and when they agree with a view.
-- Source: the rules of this project.
use Rattle.std.specs.Prelude.{◌≡◌, ℕ, ◌*◌, ◌<◌, true, Option, None, Some, length}
use Rattle.tab_core.specs.declared.TheConstants.{ROUND}
use Rattle.table_form.specs.Running.Courses.{CourseView, FitsRounds, IsCourse, outline_of}
use Rattle.round_words.specs.declared.view.View.{View}
use Rattle.round_words.specs.Shown.{HoldsCore}
use Rattle.round_words.specs.Views.{controller, holds, part}
use Rattle.dispatch_core.specs.Parts.{IsNewPart, IsOfOutline}
use Rattle.dispatch_core.specs.States.{AgreesWith, IsSameCore, StateView}
use Rattle.plan_switch.specs.Controllers as controllers
use Rattle.core_workers.specs.Views.{CrewView, actor_of}

-- the actor is that of core c, in the crew's run
pub record IsActorOf (crew : CrewView) (c : ℕ) (a : StateView) : Type 0 where
  pub core : a.core ≡ c
  pub within : c < crew.course.cores
  pub rounds_is : a.rounds ≡ crew.rounds

-- the actors are those of some cores in a run that has all events of its course
pub record IsCrew (crew : CrewView) : Type 0 where
  pub course_kept : IsCourse crew.course
  pub fits : FitsRounds crew.course crew.rounds
  pub each : (c : ℕ) (a : StateView) → actor_of crew c ≡ Some a → IsActorOf crew c a

-- each core has its actor
abbrev pub IsWhole : CrewView → Type 0
IsWhole crew = (c : ℕ) → c < crew.course.cores → (a : StateView) × (actor_of crew c ≡ Some a)

-- the cores' actors whose parts the view holds agree with them
abbrev pub CrewCoresAgree : CrewView → View → Type 0
CrewCoresAgree crew v = (c : ℕ) (a : StateView) → actor_of crew c ≡ Some a → holds v c ≡ true → AgreesWith crew.course a v

-- all actors whose parts the view holds agree with them
pub record AllAgree (crew : CrewView) (v : View) : Type 0 where
  pub cores : CrewCoresAgree crew v
  pub control : holds v controller ≡ true → controllers.ControlAgreesWith crew.course crew.control v

-- the actor is the same, some steps on, or none
abbrev pub IsSameAt : Option StateView → Option StateView → Type 0
IsSameAt None None = Unit {0}
IsSameAt None (Some b) = ⊥
IsSameAt (Some a) None = ⊥
IsSameAt (Some a) (Some b) = IsSameCore a b

-- the actors are the same, some steps on
pub record IsSameCrew (crew crew' : CrewView) : Type 0 where
  pub course : crew'.course ≡ crew.course
  pub rounds : crew'.rounds ≡ crew.rounds
  pub each : (c : ℕ) → IsSameAt (actor_of crew c) (actor_of crew' c)

-- the view holds the parts of all cores, and the controller's
pub record HoldsAll (crew : CrewView) (v : View) : Type 0 where
  pub cores : (c : ℕ) → c < crew.course.cores → holds v c ≡ true
  pub control : holds v controller ≡ true

-- the core's clock is at the run's end
abbrev pub HasFinished : StateView → Type 0
HasFinished a = a.clock ≡ a.rounds * ROUND

-- every event is posted
abbrev pub IsAllPosted : CrewView → Type 0
IsAllPosted crew = crew.control.posted ≡ length crew.course.ticks

-- the cores whose parts the view holds have finished
abbrev pub CoresFinished : CrewView → View → Type 0
CoresFinished crew v = (c : ℕ) (a : StateView) → actor_of crew c ≡ Some a → holds v c ≡ true → HasFinished a

-- the actors whose parts the view holds have finished
pub record HeldFinished (crew : CrewView) (v : View) : Type 0 where
  pub cores : CoresFinished crew v
  pub control : holds v controller ≡ true → IsAllPosted crew

-- the view was started for the course, and nothing has happened to the parts that it holds
pub record IsNewView (course : CourseView) (v : View) : Type 0 where
  pub started : IsOfOutline (outline_of course) v
  pub cores : (c : ℕ) → HoldsCore v c → IsNewPart (part v c)
  pub control : holds v controller ≡ true → controllers.IsNewControlPart (part v controller)

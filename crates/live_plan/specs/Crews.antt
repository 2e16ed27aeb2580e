-- The actors of a live run, and when they are of a book and agree with a view.
-- Source: the rules of this project.
use Rattle.std.specs.Prelude.{◌≡◌, ◌⊎◌, ℕ, ◌+◌, ◌<◌, true, false, List, [], Option, None, Some, length, map, slice_get}
use Rattle.table_form.specs.Running.Courses.{CourseView, FitsRounds, with_plans}
use Rattle.round_words.specs.declared.view.View.{View}
use Rattle.round_words.specs.Views.{controller, holds}
use Rattle.plan_switch.specs.Controllers.{HasPosted}
use Rattle.core_workers.specs.Crews.{HasFinished}
use Rattle.crew_turns.specs.declared.player.Player.{Player}
use Rattle.live_plan.specs.declared.maker.Maker.{Maker}
use Rattle.live_plan.specs.Actors.{LiveActorView, LiveAgrees}
use Rattle.live_plan.specs.Books.{LiveView}
use Rattle.live_plan.specs.Inside.Cells.{IsCellShelfOf}
use Rattle.live_plan.specs.Planners.{IsPlannerOf, PlannerView}
use Rattle.live_plan.specs.Players.{LeadView, MemberView}

-- the actors of a live run of so many rounds: by number the cores, the controller, and the planner with its shelf
pub record LiveCrewView : Type 0 where
  pub rounds : ℕ
  pub members : List (Player MemberView)
  pub lead : Player LeadView
  pub maker : Maker

-- the crew of a run of so many rounds, by its parts
abbrev pub live_crew_view : ℕ → List (Player MemberView) → Player LeadView → Maker → LiveCrewView
live_crew_view rounds members lead maker =
    record { rounds = rounds; members = members; lead = lead; maker = maker }

-- a core's actor as contracts see it, if there is one
abbrev pub actor_in : Option (Player MemberView) → Option LiveActorView
actor_in None = None
actor_in (Some p) = Some p.actor.actor

-- the actor of core c, if there is such a core
abbrev pub live_actor_of : LiveCrewView → ℕ → Option LiveActorView
live_actor_of crew c = actor_in (slice_get crew.members c)

-- the actors of the cores, by number
abbrev pub actors_of : LiveCrewView → List LiveActorView
actors_of crew = map (λ (p : Player MemberView). p.actor.actor) crew.members

-- the planner of a crew
abbrev pub planner_of : LiveCrewView → PlannerView
planner_of crew = crew.maker.planner

-- the book's course without its plans
abbrev pub bare : LiveView → CourseView
bare b = with_plans b.outline [] []

-- the core is core c of the book, in a run of so many rounds
pub record IsMemberOf (b : LiveView) (rounds c : ℕ) (m : MemberView) : Type 0 where
  pub book_is : m.book ≡ b
  pub core : m.actor.state.core ≡ c
  pub rounds_is : m.actor.state.rounds ≡ rounds

-- the planner and its shelf are of the book: the shelf was handed the values of the changes before the next
pub record IsMakerOf (b : LiveView) (maker : Maker) : Type 0 where
  pub planner : IsPlannerOf b maker.planner
  pub shelf : IsCellShelfOf b maker.shelf
  pub puts : maker.shelf.puts ≡ maker.planner.next
  pub some : maker.planner.stopped ≡ true → 0 < maker.planner.next

-- the crew was made of the book, with an actor for each of its cores, for a run that has all its events
pub record IsCrewOf (b : LiveView) (crew : LiveCrewView) : Type 0 where
  pub fits : FitsRounds (bare b) crew.rounds
  pub cores : length crew.members ≡ b.outline.cores
  pub members : (c : ℕ) (p : Player MemberView) → slice_get crew.members c ≡ Some p → IsMemberOf b crew.rounds c p.actor
  pub lead : crew.lead.actor.book ≡ b
  pub maker : IsMakerOf b crew.maker

-- all actors whose parts the view holds agree with them
pub record LiveCrewAgrees (b : LiveView) (crew : LiveCrewView) (v : View) : Type 0 where
  pub cores : (c : ℕ) (a : LiveActorView) → live_actor_of crew c ≡ Some a → holds v c ≡ true → LiveAgrees b a.state v
  pub control : holds v controller ≡ true → HasPosted b.outline crew.lead.actor.control v

-- the view holds the parts of all cores, and the controller's
pub record HoldsLiveCrew (crew : LiveCrewView) (v : View) : Type 0 where
  pub cores : (c : ℕ) → c < length crew.members → holds v c ≡ true
  pub control : holds v controller ≡ true

-- every core's clock is at the run's end, and every event is posted
pub record HaveFinished (b : LiveView) (crew : LiveCrewView) : Type 0 where
  pub cores : (c : ℕ) (a : LiveActorView) → live_actor_of crew c ≡ Some a → HasFinished a.state
  pub control : crew.lead.actor.control.posted ≡ length b.outline.ticks

-- memory ran out for this change, which the planner planned last, or for none
abbrev pub StoppedAt : PlannerView → Option ℕ → Type 0
StoppedAt p None = p.stopped ≡ false
StoppedAt p (Some change) = (p.stopped ≡ true) × (p.next ≡ change + 1)

-- all changes were reported, or one stopped
abbrev pub HasPlanned : LiveView → PlannerView → Type 0
HasPlanned b p = (p.next ≡ length b.changes) ⊎ (p.stopped ≡ true)

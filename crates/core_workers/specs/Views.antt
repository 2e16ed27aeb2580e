-- What a crew shows of its run.
-- Source: the rules of this project.
use Rattle.std.specs.Prelude.{ℕ, List, Option, map, slice_get}
use Rattle.table_form.specs.Running.Courses.{CourseView}
use Rattle.dispatch_core.specs.States.{ActorView, StateView}
use Rattle.plan_switch.specs.Controllers.{ControllerView}
use Rattle.plan_switch.specs.declared.state.ControlState.{ControlState}
use Rattle.crew_turns.specs.declared.player.Player.{Player}

-- the run's course and count of rounds, what the controller keeps, and by number what each core's actor keeps
pub record CrewView : Type 0 where
  pub course : CourseView
  pub rounds : ℕ
  pub control : ControlState
  pub actors : List StateView

-- what is kept of core c, if it is one of the crew
abbrev pub actor_of : CrewView → ℕ → Option StateView
actor_of crew c = slice_get crew.actors c

-- what a core's player keeps
abbrev pub state_in : Player ActorView → StateView
state_in p = p.actor.state

-- what the players of a run show
abbrev pub crew_view : CourseView → ℕ → List (Player ActorView) → Player ControllerView → CrewView
crew_view course rounds cores lead = record { course = course; rounds = rounds; control = lead.actor.state; actors = map state_in cores }

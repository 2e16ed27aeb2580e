-- What each crew keeps of its players.
use Rattle.std.specs.Prelude.{◌≡◌, ℕ, List, Some, length, slice_get}
use Rattle.table_form.specs.Running.Courses.{CourseView, FitsRounds, IsCourse}
use Rattle.crew_turns.specs.declared.player.Player.{Player}
use Rattle.dispatch_core.specs.States.{ActorView}
use Rattle.plan_switch.specs.Controllers.{ControllerView}

-- the actor is that of core c, in a run of so many rounds of the course
pub record IsActorIn (course : CourseView) (rounds c : ℕ) (a : ActorView) : Type 0 where
  pub course_is : a.course ≡ course
  pub core : a.state.core ≡ c
  pub rounds_is : a.state.rounds ≡ rounds

-- the players are all actors of a run that has all events of its course
pub record ArePlayers (course : CourseView) (rounds : ℕ) (cores : List (Player ActorView)) (lead : Player ControllerView) : Type 0 where
  pub course_kept : IsCourse course
  pub fits : FitsRounds course rounds
  pub count : length cores ≡ course.cores
  pub each : (i : ℕ) (p : Player ActorView) → slice_get cores i ≡ Some p → IsActorIn course rounds i p.actor
  pub lead_is : lead.actor.course ≡ course

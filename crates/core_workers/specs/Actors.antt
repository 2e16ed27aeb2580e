-- What is said of a run's actors as actors of a crew: a core by its course, and the controller.
-- Source: the rules of this project.
use Rattle.std.specs.Prelude.{◌≡◌, ◌*◌, length}
use Rattle.tab_core.specs.declared.TheConstants.{ROUND}
use Rattle.table_form.specs.Running.Courses.{FitsRounds, IsCourse}
use Rattle.round_words.specs.declared.view.View.{View}
use Rattle.round_words.specs.Views.{controller}
use Rattle.crew_turns.specs.Kinds.{Kind}
use Rattle.dispatch_core.specs.States.{ActorView, AgreesWith, IsSameCore}
use Rattle.plan_switch.specs.Controllers as controllers
use Rattle.plan_switch.specs.Controllers.{ControllerView}
use Rattle.core_workers.specs.Crews.{HasFinished}
use Rattle.core_workers.specs.Waiting.{CoreWaits, LeadWaits}

-- the core's actor agrees with its part of the view, in a run that has all events of its course
pub record CoreAgrees (a : ActorView) (v : View) : Type 0 where
  pub course_kept : IsCourse a.course
  pub fits : FitsRounds a.course a.state.rounds
  pub agrees : AgreesWith a.course a.state v

-- the core is the same by the same course, some steps on
pub record IsSameActor (a b : ActorView) : Type 0 where
  pub course : b.course ≡ a.course
  pub core : IsSameCore a.state b.state

-- a core: its place is its clock, and it has ended at the run's end
abbrev pub core_kind : Kind ActorView
core_kind = record {
  number = λ a. a.state.core;
  agrees = CoreAgrees;
  same = IsSameActor;
  place = λ a. a.state.clock;
  end = λ a. a.state.rounds * ROUND;
  has_ended = λ a. HasFinished a.state;
  waits = λ a v w. CoreWaits a.course a.state.core v w;
}

-- the controller: its place is how many events it has posted, and it has ended once these are all
abbrev pub lead_kind : Kind ControllerView
lead_kind = record {
  number = λ k. controller;
  agrees = λ k v. controllers.ControlAgreesWith k.course k.state v;
  same = λ k l. l.course ≡ k.course;
  place = λ k. k.state.posted;
  end = λ k. length k.course.ticks;
  has_ended = λ k. k.state.posted ≡ length k.course.ticks;
  waits = λ k v w. LeadWaits k.course k.state.posted v w;
}

-- What is said of a live run's actors as actors of a crew: a core by its book, and the controller.
-- Source: the rules of this project.
use Rattle.std.specs.Prelude.{◌≡◌, ◌*◌, ◌≤◌, length}
use Rattle.tab_core.specs.declared.TheConstants.{MAX_ROUNDS, ROUND}
use Rattle.round_words.specs.declared.view.View.{View}
use Rattle.round_words.specs.Views.{controller}
use Rattle.crew_turns.specs.Kinds.{Kind}
use Rattle.dispatch_core.specs.States.{IsSameCore}
use Rattle.plan_switch.specs.Controllers.{HasPosted}
use Rattle.plan_switch.specs.declared.state.ControlState.{ControlState}
use Rattle.core_workers.specs.Crews.{HasFinished}
use Rattle.live_book.specs.Books.{LiveView}
use Rattle.live_plan.specs.Actors.{LiveActorView, LiveAgrees}

-- a live core: the book, and what its actor keeps
pub record MemberView : Type 0 where
  pub book : LiveView
  pub actor : LiveActorView

-- a live core by its parts
abbrev pub member_view : LiveView → LiveActorView → MemberView
member_view book actor = record { book = book; actor = actor }

-- the controller: the book, and what it keeps
pub record LeadView : Type 0 where
  pub book : LiveView
  pub control : ControlState

-- a live controller by its parts
abbrev pub lead_view : LiveView → ControlState → LeadView
lead_view book control = record { book = book; control = control }

-- the core agrees with its part of the view, in a run that isn't too long
pub record LiveCoreAgrees (m : MemberView) (v : View) : Type 0 where
  pub short : m.actor.state.rounds ≤ MAX_ROUNDS
  pub agrees : LiveAgrees m.book m.actor.state v

-- the core is the same by the same book, some steps on
pub record IsSameMember (m n : MemberView) : Type 0 where
  pub book : n.book ≡ m.book
  pub core : IsSameCore m.actor.state n.actor.state

-- A core: its place is its clock, and it has ended at the run's end. Of what it waits for nothing is said, since the
-- last turns of a live run go on until all have ended
abbrev pub live_core_kind : Kind MemberView
live_core_kind = record {
  number = λ m. m.actor.state.core;
  agrees = LiveCoreAgrees;
  same = IsSameMember;
  place = λ m. m.actor.state.clock;
  end = λ m. m.actor.state.rounds * ROUND;
  has_ended = λ m. HasFinished m.actor.state;
  waits = λ m v w. Unit {0};
}

-- the controller: its place is how many events it has posted, and it has ended once these are all
abbrev pub live_lead_kind : Kind LeadView
live_lead_kind = record {
  number = λ k. controller;
  agrees = λ k v. HasPosted k.book.outline k.control v;
  same = λ k l. l.book ≡ k.book;
  place = λ k. k.control.posted;
  end = λ k. length k.book.outline.ticks;
  has_ended = λ k. k.control.posted ≡ length k.book.outline.ticks;
  waits = λ k v w. Unit {0};
}

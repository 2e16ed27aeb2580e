-- The controller, and when it agrees with its part of a view.
-- Source: the rules of this project.
use Rattle.std.specs.Prelude.{◌≡◌, ℕ, ◌-◌, ◌<◌, ◌≤◌, true, List, [], length, slice_index}
use Rattle.table_form.specs.Running.Courses.{CourseView, outline_of}
use Rattle.table_form.specs.Running.Outlines.{OutlineView}
use Rattle.round_words.specs.declared.view.Part.{Part}
use Rattle.round_words.specs.declared.view.View.{View}
use Rattle.round_words.specs.Hearing.{KnowsClocks}
use Rattle.round_words.specs.Views.{IsStarted, controller, heard_of, holds, part}
use Rattle.plan_switch.specs.declared.state.ControlState.{ControlState}

-- a controller: the course, and what it keeps
pub record ControllerView : Type 0 where
  pub course : CourseView
  pub state : ControlState

-- the controller by its course and its state
abbrev pub controller_view : CourseView → ControlState → ControllerView
controller_view course state = record { course = course; state = state }

-- nothing has happened to the controller's part
pub record IsNewControlPart (p : Part) : Type 0 where
  pub heard : (d : ℕ) → heard_of p d ≡ []
  pub floors : p.floors ≡ []

-- no clock is below the floor of an event as it is posted: the event's tick less the lag, or 0
abbrev pub floor_of : OutlineView → ℕ → ℕ
floor_of o i = slice_index o.ticks i - o.lag

-- the floors are those of the first events of the outline
pub record AreFloorsOf (o : OutlineView) (floors : List ℕ) : Type 0 where
  pub few : length floors ≤ length o.ticks
  pub each : (i : ℕ) → i < length floors → slice_index floors i ≡ floor_of o i

-- the state agrees with the controller's part of the view, which the view holds: the floors are those of
-- the events that it has posted, and its clocks are those that were heard last
pub record HasPosted (o : OutlineView) (s : ControlState) (v : View) : Type 0 where
  pub of_outline : IsStarted o.lag o.cores (length o.ticks) v
  pub holds_it : holds v controller ≡ true
  pub posted : s.posted ≡ length (part v controller).floors
  pub floors : AreFloorsOf o (part v controller).floors
  pub known : KnowsClocks s.known (part v controller)

-- the controller of the course agrees with its part of the view
abbrev pub ControlAgreesWith : CourseView → ControlState → View → Type 0
ControlAgreesWith course s v = HasPosted (outline_of course) s v

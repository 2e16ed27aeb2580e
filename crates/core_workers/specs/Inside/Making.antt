-- A crew that is being made.
use Rattle.std.specs.Prelude.{◌≡◌, ℕ, List, Some, slice_get, slice_index}
use Rattle.table_form.specs.Running.Courses.{CourseView, outline_of}
use Rattle.round_words.specs.declared.view.View.{View}
use Rattle.round_words.specs.Shown.{HoldsCore}
use Rattle.round_words.specs.Views.{part}
use Rattle.crew_turns.specs.declared.player.Player.{Player}
use Rattle.dispatch_core.specs.Parts.{IsNewPart, IsOfOutline}
use Rattle.dispatch_core.specs.States.{ActorView, AgreesWith}
use Rattle.core_workers.specs.Inside.Players.{IsActorIn}

-- the actor is that of core c, keeps so many stints, and agrees with each view in which nothing has happened to it
pub record IsNewActor (course : CourseView) (rounds c keep : ℕ) (a : ActorView) : Type 0 where
  pub actor : IsActorIn course rounds c a
  pub keep_is : a.state.keep ≡ keep
  pub agrees : (v : View) → IsOfOutline (outline_of course) v → HoldsCore v c → IsNewPart (part v c) → AgreesWith course a.state v

-- the players are new, by number, and keep as many stints as `keeps` says
abbrev pub ArePlayersNew : CourseView → ℕ → List ℕ → List (Player ActorView) → Type 0
ArePlayersNew course rounds keeps cores = (i : ℕ) (p : Player ActorView) → slice_get cores i ≡ Some p
    → IsNewActor course rounds i (slice_index keeps i) p.actor

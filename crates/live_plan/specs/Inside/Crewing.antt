-- A live crew that is being made.
use Rattle.std.specs.Prelude.{◌≡◌, ℕ, List, Some, slice_get}
use Rattle.round_words.specs.declared.view.View.{View}
use Rattle.round_words.specs.Shown.{HoldsCore}
use Rattle.round_words.specs.Views.{part}
use Rattle.crew_turns.specs.declared.player.Player.{Player}
use Rattle.dispatch_core.specs.Parts.{IsNewPart, IsOfOutline}
use Rattle.live_book.specs.Books.{LiveView}
use Rattle.live_plan.specs.Actors.{LiveAgrees}
use Rattle.live_plan.specs.Crews.{IsMemberOf}
use Rattle.live_plan.specs.Players.{MemberView}

-- the core is core c, and agrees with each view in which nothing has happened to it
pub record IsNewMember (b : LiveView) (rounds c : ℕ) (m : MemberView) : Type 0 where
  pub member : IsMemberOf b rounds c m
  pub agrees : (v : View) → IsOfOutline b.outline v → HoldsCore v c → IsNewPart (part v c) → LiveAgrees b m.actor.state v

-- the players are new cores, by number
abbrev pub AreNewMembers : LiveView → ℕ → List (Player MemberView) → Type 0
AreNewMembers b rounds members = (i : ℕ) (p : Player MemberView) → slice_get members i ≡ Some p → IsNewMember b rounds i p.actor

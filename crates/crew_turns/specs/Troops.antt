-- The actors of a run: the cores of the lowest numbers, by number, and the controller.
-- Source: the rules of this project.
use Rattle.std.specs.Prelude.{◌≡◌, ◌⊎◌, ℕ, ◌≤◌, true, List, Some, length, slice_get}
use Rattle.round_words.specs.declared.view.View.{View}
use Rattle.round_words.specs.Views.{controller, holds}
use Rattle.crew_turns.specs.Kinds.{Kind}
use Rattle.crew_turns.specs.declared.player.Player.{Player}

-- the players are the cores of the lowest numbers and the controller
pub record AreTroop {C L : Type 0} (core : Kind C) (control : Kind L) (cores : List (Player C)) (lead : Player L) : Type 0 where
  pub few : length cores ≤ 32
  pub each : (i : ℕ) (p : Player C) → slice_get cores i ≡ Some p → core.number p.actor ≡ i
  pub lead_is : control.number lead.actor ≡ controller

-- those whose parts the view holds agree with them
pub record AreAgreed {C L : Type 0} (core : Kind C) (control : Kind L) (cores : List (Player C)) (lead : Player L) (v : View) : Type 0 where
  pub troop : AreTroop core control cores lead
  pub each : (i : ℕ) (p : Player C) → slice_get cores i ≡ Some p → holds v i ≡ true → core.agrees p.actor v
  pub control_agrees : holds v controller ≡ true → control.agrees lead.actor v

-- all of them agree with their parts, which the view holds
pub record AreHeld {C L : Type 0} (core : Kind C) (control : Kind L) (cores : List (Player C)) (lead : Player L) (v : View) : Type 0 where
  pub troop : AreTroop core control cores lead
  pub each : (i : ℕ) (p : Player C) → slice_get cores i ≡ Some p → core.agrees p.actor v
  pub control_agrees : control.agrees lead.actor v

-- the players are the same, maybe some steps on
pub record AreSame {C L : Type 0} (core : Kind C) (control : Kind L) (cores : List (Player C)) (lead : Player L)
    (cores' : List (Player C)) (lead' : Player L) : Type 0 where
  pub count : length cores' ≡ length cores
  pub each : (i : ℕ) (p q : Player C) → slice_get cores i ≡ Some p → slice_get cores' i ≡ Some q → core.same p.actor q.actor
  pub same_lead : control.same lead.actor lead'.actor

-- those cores whose parts the view holds have ended
abbrev pub HaveEnded : {C : Type 0} → Kind C → List (Player C) → View → Type 0
HaveEnded {C} core cores v = (i : ℕ) (p : Player C) → slice_get cores i ≡ Some p → holds v i ≡ true → core.has_ended p.actor

-- one of the cores whose parts the view holds waits, and each of them that hasn't ended is as far, or further
pub record LeastWaits {C : Type 0} (core : Kind C) (cores : List (Player C)) (v w : View) : Type 0 where
  pub number : ℕ
  pub player : Player C
  pub at : slice_get cores number ≡ Some player
  pub held : holds w number ≡ true
  pub least : (i : ℕ) (p : Player C) → slice_get cores i ≡ Some p → holds w i ≡ true
      → core.has_ended p.actor ⊎ (core.place player.actor ≤ core.place p.actor)
  pub waits : core.waits player.actor v w

-- those whose parts are held are at rest in w, after steps that began in v: the cores have ended or one that is least far
-- waits, and so it is with the controller
pub record AreAtRest {C L : Type 0} (core : Kind C) (control : Kind L) (cores : List (Player C)) (lead : Player L) (v w : View) : Type 0 where
  pub cores_rest : HaveEnded core cores w ⊎ LeastWaits core cores v w
  pub lead_rests : holds w controller ≡ true → control.has_ended lead.actor ⊎ control.waits lead.actor v w

-- all of them whose parts are held have ended
pub record AllHaveEnded {C L : Type 0} (core : Kind C) (control : Kind L) (cores : List (Player C)) (lead : Player L) (v : View) : Type 0 where
  pub cores_have : HaveEnded core cores v
  pub lead_has : holds v controller ≡ true → control.has_ended lead.actor

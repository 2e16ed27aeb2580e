-- The cores of one thread, and what comes of them.
-- Source: the rules of this project.
use Rattle.std.specs.Prelude.{◌≡◌, ◌≢◌, ℕ, List, Some, length, slice_get}
use Rattle.round_words.specs.declared.view.View.{View}
use Rattle.round_words.specs.Views.{part}
use Rattle.crew_turns.specs.Going.{SameActors}
use Rattle.crew_turns.specs.Kinds.{Kind}
use Rattle.crew_turns.specs.declared.player.Player.{Player}

-- the players agree with the view, and no two of them have one number
pub record AgreeApart {A : Type 0} (kind : Kind A) (players : List (Player A)) (v : View) : Type 0 where
  pub each : (i : ℕ) (p : Player A) → slice_get players i ≡ Some p → kind.agrees p.actor v
  pub apart : (i j : ℕ) (p q : Player A) → slice_get players i ≡ Some p → slice_get players j ≡ Some q → i ≢ j
      → kind.number p.actor ≢ kind.number q.actor

-- the players are the same, maybe some steps on
pub record AreFurther {A : Type 0} (kind : Kind A) (players players' : List (Player A)) : Type 0 where
  pub count : length players' ≡ length players
  pub each : (i : ℕ) (p q : Player A) → slice_get players i ≡ Some p → slice_get players' i ≡ Some q → kind.same p.actor q.actor

-- some of the players stepped, and nobody else
pub record ChangesAmong {A : Type 0} (kind : Kind A) (players : List (Player A)) (v w : View) : Type 0 where
  pub actors : SameActors v w
  pub parts : (a : ℕ) → ((i : ℕ) (p : Player A) → slice_get players i ≡ Some p → kind.number p.actor ≢ a) → part w a ≡ part v a

-- What a turn of steps brings.
use Rattle.std.specs.Prelude.{◌≡◌, ◌≢◌, ◌⊎◌, ℕ, ◌+◌, ◌<◌, ◌≤◌, Bool, true, false, List, Some, length, slice_get, slice_index}
use Rattle.round_words.specs.declared.view.View.{View}
use Rattle.round_words.specs.Views.{controller, holds, part}
use Rattle.crew_turns.specs.Going.{PartsGoOn, SameActors}
use Rattle.crew_turns.specs.Kinds.{Kind}
use Rattle.crew_turns.specs.Numbers.{IsLeastOfFirst}
use Rattle.crew_turns.specs.Troops.{AllHaveEnded, AreAtRest}
use Rattle.crew_turns.specs.Inside.Clocks.{lead_left, ticks_left}
use Rattle.crew_turns.specs.declared.clocks.TheConstants.{OUT}
use Rattle.crew_turns.specs.declared.player.Player.{Player}
use Rattle.crew_turns.specs.declared.turning.Progress.{Progress}
use Rattle.crew_turns.specs.declared.turning.Progress.TheVariants.{Moved, Waits, Stopped, Done}

-- the core ran on as far as the clock, which is OUT where it has ended. Where it didn't move it waits
abbrev pub RunsOn : {C : Type 0} → Kind C → C → View → ℕ → C → View → Type 0
RunsOn core a v clock b w = ((clock ≡ OUT) × core.has_ended b)
    ⊎ ((clock ≡ core.place b) × ((core.place a < clock) ⊎ ((clock ≡ core.place a) × core.waits b v w)))

-- the players are the cores of the lowest numbers
pub record AreCores {C : Type 0} (core : Kind C) (cores : List (Player C)) : Type 0 where
  pub few : length cores ≤ 32
  pub each : (i : ℕ) (p : Player C) → slice_get cores i ≡ Some p → core.number p.actor ≡ i

-- those whose parts the view holds agree with them
abbrev pub CoresAgree : {C : Type 0} → Kind C → List (Player C) → View → Type 0
CoresAgree {C} core cores v = (i : ℕ) (p : Player C) → slice_get cores i ≡ Some p → holds v i ≡ true → core.agrees p.actor v

-- cores made some steps, and the controller none
pub record CoresGoOn {C : Type 0} (core : Kind C) (cores : List (Player C)) (v : View) (cores' : List (Player C)) (w : View) : Type 0 where
  pub count : length cores' ≡ length cores
  pub same : (i : ℕ) (p q : Player C) → slice_get cores i ≡ Some p → slice_get cores' i ≡ Some q → core.same p.actor q.actor
  pub actors : SameActors v w
  pub parts : PartsGoOn v w
  pub control : part w controller ≡ part v controller
  pub agree : CoresAgree core cores' w

-- what came of the turn of core c
abbrev pub RunTold : {C : Type 0} → Kind C → ℕ → List ℕ → View → Progress → List (Player C) → List ℕ → View → Type 0
RunTold core c ticks v Moved cores' ticks' w = ticks_left ticks' < ticks_left ticks
RunTold {C} core c ticks v Waits cores' ticks' w = (ticks' ≡ ticks)
    × ((p : Player C) → slice_get cores' c ≡ Some p → core.waits p.actor v w)
RunTold {C} core c ticks v Stopped cores' ticks' w = (ticks' ≡ ticks)
    × ((p : Player C) → slice_get cores' c ≡ Some p → core.waits p.actor v w)
RunTold core c ticks v Done cores' ticks' w = ⊥

-- what came of the turn of the core that is guessed
abbrev pub GuessTold : List ℕ → Bool → List ℕ → Type 0
GuessTold ticks true ticks' = ticks_left ticks' < ticks_left ticks
GuessTold ticks false ticks' = ticks' ≡ ticks

-- a core that is to go on waits, and none of those is at a lower clock
pub record LeastStuck {C : Type 0} (core : Kind C) (cores : List (Player C)) (ticks : List ℕ) (v w : View) : Type 0 where
  pub number : ℕ
  pub within : number < length cores
  pub on : slice_index ticks number ≢ OUT
  pub least : IsLeastOfFirst ticks number (length cores)
  pub waits : (p : Player C) → slice_get cores number ≡ Some p → core.waits p.actor v w

-- what came of the cores' part of a turn
abbrev pub CoresTold : {C : Type 0} → Kind C → List ℕ → View → Progress → List (Player C) → List ℕ → View → Type 0
CoresTold core ticks v Moved cores' ticks' w = ticks_left ticks' < ticks_left ticks
CoresTold core ticks v Waits cores' ticks' w = (ticks_left ticks' ≤ ticks_left ticks) × LeastStuck core cores' ticks' v w
CoresTold core ticks v Stopped cores' ticks' w = (ticks_left ticks' ≤ ticks_left ticks) × LeastStuck core cores' ticks' v w
CoresTold core ticks v Done cores' ticks' w = (ticks_left ticks' ≤ ticks_left ticks)
    × ((i : ℕ) → i < length cores' → slice_index ticks' i ≡ OUT)

-- what a turn is in which the controller waits
abbrev pub or_waits : Progress → Progress
or_waits Moved = Moved
or_waits Waits = Waits
or_waits Stopped = Stopped
or_waits Done = Waits

-- what a turn is in which an actor waits for what won't come
abbrev pub or_stops : Progress → Progress
or_stops Moved = Moved
or_stops Waits = Stopped
or_stops Stopped = Stopped
or_stops Done = Stopped

-- what is left to do for all
abbrev pub left_to_do : {L : Type 0} → Kind L → List ℕ → Player L → Bool → ℕ
left_to_do control ticks lead posting = ticks_left ticks + lead_left control lead posting

-- a turn in which somebody got on leaves less to do, and one in which nobody did leaves those who are held at rest
abbrev pub TurnTold : {C L : Type 0} → Kind C → Kind L → ℕ → View → Progress → List (Player C) → Player L → ℕ → View → Type 0
TurnTold core control left v Moved cores' lead' left' w = left' < left
TurnTold core control left v Waits cores' lead' left' w = (left' ≤ left) × AreAtRest core control cores' lead' v w
TurnTold core control left v Stopped cores' lead' left' w = (left' ≤ left) × AreAtRest core control cores' lead' v w
TurnTold core control left v Done cores' lead' left' w = AllHaveEnded core control cores' lead' w

-- The clocks by which a turn picks its core, and what is left to do.
use Rattle.std.specs.Prelude.{◌≡◌, ◌⊎◌, ℕ, ◌+◌, ◌-◌, ◌<◌, true, false, Bool, List, Some, if◌then◌else◌, slice_get, slice_index, length, sum_by}
use Rattle.round_words.specs.declared.view.View.{View}
use Rattle.round_words.specs.Views.{controller, holds}
use Rattle.crew_turns.specs.Kinds.{Kind}
use Rattle.crew_turns.specs.declared.clocks.TheConstants.{OUT}
use Rattle.crew_turns.specs.declared.player.Player.{Player}

-- the number is OUT where core i isn't held or has ended, otherwise its clock
abbrev pub IsClockOf : {C : Type 0} → Kind C → List (Player C) → View → ℕ → ℕ → Type 0
IsClockOf {C} core cores v i clock =
    ((clock ≡ OUT) × ((p : Player C) → slice_get cores i ≡ Some p → holds v i ≡ true → core.has_ended p.actor))
    ⊎ ((clock < OUT) × (p : Player C) × (slice_get cores i ≡ Some p) × (holds v i ≡ true) × (clock ≡ core.place p.actor))

-- each core's number is right
pub record AreTicks {C : Type 0} (core : Kind C) (cores : List (Player C)) (v : View) (ticks : List ℕ) : Type 0 where
  pub size : length ticks ≡ 32
  pub each : (i : ℕ) → i < length cores → IsClockOf core cores v i (slice_index ticks i)

-- the controller is to go on until it has ended
pub record IsPosting {L : Type 0} (control : Kind L) (lead : Player L) (v : View) (posting : Bool) : Type 0 where
  pub some : posting ≡ true → holds v controller ≡ true
  pub done : posting ≡ false → holds v controller ≡ true → control.has_ended lead.actor

-- how much is left to do for the cores, at most
abbrev pub ticks_left : List ℕ → ℕ
ticks_left ticks = sum_by (λ (t : ℕ). OUT - t) ticks

-- how much is left to do for the controller, at most
abbrev pub lead_left : {L : Type 0} → Kind L → Player L → Bool → ℕ
lead_left control lead posting = (control.end lead.actor - control.place lead.actor) + (if posting then 1 else 0)

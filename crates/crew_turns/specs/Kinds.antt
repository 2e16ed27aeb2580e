-- What is said of the actors of a kind, and the laws by which steps of others leave them in peace.
-- Source: the rules of this project.
use Rattle.std.specs.Prelude.{◌≡◌, ℕ, ◌<◌, ◌≤◌, true}
use Rattle.round_words.specs.declared.view.View.{View}
use Rattle.round_words.specs.Views.{holds, part}
use Rattle.crew_turns.specs.Going.{IsQuiet, IsSameBoard, PartsGoOn}
use Rattle.crew_turns.specs.declared.stepper.Turn.{Turn}
use Rattle.crew_turns.specs.declared.stepper.Turn.TheVariants.{Moved, Waits, Stopped, Ended}

-- what is said of an actor of this kind
pub record Kind (A : Type 0) : Type 1 where
  -- its number
  pub number : A → ℕ
  -- it agrees with its part of the view
  pub agrees : A → View → Type 0
  -- the second is the first, maybe some steps on
  pub same : A → A → Type 0
  -- how far it is: a core's clock, or how many events the controller has posted
  pub place : A → ℕ
  -- how far it gets
  pub end : A → ℕ
  -- it has got there
  pub has_ended : A → Type 0
  -- by what it did last since the first view it can't get on in the second
  pub waits : A → View → View → Type 0

-- what every kind of actor keeps
pub record IsLawful {A : Type 0} (kind : Kind A) : Type 0 where
  -- it is where its part is held, of a board that was started, and agrees with each view of the board that has the part
  pub begun : (a : A) (v : View) → kind.agrees a v → v.started ≡ true
  pub held : (a : A) (v : View) → kind.agrees a v → holds v (kind.number a) ≡ true
  pub parted : (a : A) (v w : View) → kind.agrees a v → IsSameBoard v w → holds w (kind.number a) ≡ true
      → part w (kind.number a) ≡ part v (kind.number a) → kind.agrees a w
  pub within : (a : A) (v : View) → kind.agrees a v → kind.place a ≤ kind.end a
  -- some steps on it is the same
  pub itself : (a : A) → kind.same a a
  pub further : (a b c : A) → kind.same a b → kind.same b c → kind.same a c
  pub numbered : (a b : A) → kind.same a b → kind.number b ≡ kind.number a
  pub ends : (a b : A) → kind.same a b → kind.end b ≡ kind.end a
  -- what it did since a view it did since each view before, and it waits on while nobody gets on
  pub since : (a : A) (u v w : View) → PartsGoOn u v → kind.waits a v w → kind.waits a u w
  pub stays : (a : A) (u v w : View) → kind.waits a u v → IsQuiet v w → part w (kind.number a) ≡ part v (kind.number a)
      → kind.waits a u w

-- what came of a step
abbrev pub Stepped : {A : Type 0} → Kind A → A → View → Turn → A → View → Type 0
Stepped kind a v Moved b w = kind.place a < kind.place b
Stepped kind a v Waits b w = (kind.place b ≡ kind.place a) × IsQuiet v w × kind.waits b v w
Stepped kind a v Stopped b w = (kind.place b ≡ kind.place a) × IsQuiet v w × kind.waits b v w
Stepped kind a v Ended b w = (kind.place b ≡ kind.place a) × IsQuiet v w × kind.has_ended b

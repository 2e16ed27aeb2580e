-- How the parts of a view come on by steps.
-- Source: the rules of this project.
use Rattle.std.specs.Prelude.{◌≡◌, ℕ, ◌≤◌, length}
use Rattle.round_words.specs.declared.view.Part.{Part}
use Rattle.round_words.specs.declared.view.View.{View}
use Rattle.round_words.specs.Views.{heard_of, holds, part}

-- q is an actor's part p, maybe some steps on: its clock is later or it has seen no less at that clock, and
-- it has heard each core no less often
pub record GoesOnTo (p q : Part) : Type 0 where
  pub clock : p.clock ≤ q.clock
  pub sights : q.clock ≡ p.clock → length p.sights ≤ length q.sights
  pub heard : (d : ℕ) → length (heard_of p d) ≤ length (heard_of q d)

-- each actor's part, maybe some steps on
abbrev pub PartsGoOn : View → View → Type 0
PartsGoOn v w = (a : ℕ) → GoesOnTo (part v a) (part w a)

-- the views are of one board
pub record IsSameBoard (v w : View) : Type 0 where
  pub started : w.started ≡ v.started
  pub lag : w.lag ≡ v.lag
  pub cores : w.cores ≡ v.cores
  pub events : w.events ≡ v.events

-- the views are of one board, with parts of the same actors
pub record SameActors (v w : View) : Type 0 where
  pub started : w.started ≡ v.started
  pub lag : w.lag ≡ v.lag
  pub cores : w.cores ≡ v.cores
  pub events : w.events ≡ v.events
  pub actors : (a : ℕ) → holds w a ≡ holds v a

-- of these actors nobody got on: each is at its clock, and no event was posted
pub record IsQuiet (v w : View) : Type 0 where
  pub actors : SameActors v w
  pub clocks : (a : ℕ) → (part w a).clock ≡ (part v a).clock
  pub floors : (a : ℕ) → (part w a).floors ≡ (part v a).floors

-- What each call changes of its seat's view, and what a step of one actor leaves as it was.
-- Source: the rules of this project.
use Rattle.std.specs.Prelude.{◌≡◌, ◌≢◌, ◌/◌, ℕ, Bool, true, Option}
use Rattle.tab_core.specs.declared.TheConstants.{ROUND}
use Rattle.tab_core.specs.declared.stint.Stint.{Stint}
use Rattle.round_words.specs.declared.view.View.{View}
use Rattle.round_words.specs.Views.{controller, holds, part, with_part, posts, sees, hears, with_entry, with_stint, entry, last_of, IsStintAfter}

-- `post`: the controller's floors have this one more
abbrev pub PostsFloor : View → View → ℕ → Type 0
PostsFloor v w floor = w ≡ with_part v controller (posts (part v controller) floor)

-- `see`: the sights of core c have this count more
abbrev pub SeesCount : View → View → ℕ → ℕ → Type 0
SeesCount v w c count = w ≡ with_part v c (sees (part v c) count)

-- `clock_of`: the clocks that actor a heard of core c have this one more
abbrev pub HearsClock : View → View → ℕ → ℕ → ℕ → Type 0
HearsClock v w a c clock = w ≡ with_part v a (hears (part v a) c clock)

-- `decide`: core c has an entry more, of its clock's round, with its last sight and this used count. If the
-- entry is won, they are the same
abbrev pub AddsEntry : View → View → ℕ → ℕ → Type 0
AddsEntry v w c used = let p = part v c in (won : Bool)
    × (w ≡ with_part v c (with_entry p (entry (p.clock / ROUND) used (last_of p.sights) won)))
    × (won ≡ true → used ≡ last_of p.sights)

-- `advance`: core c has a stint more, from its clock to the end; that is its clock, and its sights are gone
abbrev pub AppendsStint : View → View → ℕ → ℕ → Option ℕ → Type 0
AppendsStint v w c end ran = (s : Stint) × IsStintAfter (part v c) end ran s
    × (w ≡ with_part v c (with_stint (part v c) s))

-- the views have the same settings and hold the same actors, and the same parts but that of actor a
pub record ChangesOnly (v w : View) (a : ℕ) : Type 0 where
  pub started : w.started ≡ v.started
  pub lag : w.lag ≡ v.lag
  pub cores : w.cores ≡ v.cores
  pub events : w.events ≡ v.events
  pub actors : (b : ℕ) → holds w b ≡ holds v b
  pub parts : (b : ℕ) → b ≢ a → part w b ≡ part v b

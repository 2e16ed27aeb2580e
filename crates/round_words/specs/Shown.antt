-- What each seat's view shows by the rule, and what it shows of the answers of `see` and `clock_of`.
-- Source: the rules of this project.
use Rattle.std.specs.Prelude.{◌≡◌, ℕ, ◌+◌, ◌^◌, ◌<◌, ◌≤◌, true, List, length, slice_get, Some, All}
use Rattle.tab_core.specs.declared.entry.Entry.{Entry}
use Rattle.round_words.specs.declared.view.Part.{Part}
use Rattle.round_words.specs.declared.view.View.{View}
use Rattle.round_words.specs.Views.{controller, holds, part, hears, last_heard}
use Rattle.round_words.specs.Rule.{HasCountsUpTo, FitsFloors, IsCorePart}

-- core c is one of the board's, and the view holds it
abbrev pub HoldsCore : View → ℕ → Type 0
HoldsCore v c = (c < v.cores) × (holds v c ≡ true)

-- e is the entry of core c into round r
abbrev pub HasEntry : View → ℕ → ℕ → Entry → Type 0
HasEntry v c r e = (slice_get (part v c).entries r ≡ Some e) × (e.round ≡ r)

-- all entries of one round have one used count
abbrev pub HasOneCount : View → Type 0
HasOneCount v = (c d r : ℕ) (e f : Entry) → HoldsCore v c → HoldsCore v d
    → HasEntry v c r e → HasEntry v d r f → e.used ≡ f.used

-- any two clocks differ by at most the lag
abbrev pub ClocksWithinLag : View → Type 0
ClocksWithinLag v = (c d : ℕ) → HoldsCore v c → HoldsCore v d → (part v c).clock ≤ (part v d).clock + v.lag

-- no floor exceeds the core's clock, no count exceeds the number of floors, and each floor before a seen
-- count is at most the tick at which the entry or stint begins
pub record KeepsFloors (floors : List ℕ) (p : Part) : Type 0 where
  pub low : All (λ floor. floor ≤ p.clock) floors
  pub fits : FitsFloors floors p

-- a view that holds the controller shows this of each of its cores
abbrev pub CoresKeepFloors : View → Type 0
CoresKeepFloors v = holds v controller ≡ true → (c : ℕ) → HoldsCore v c
    → KeepsFloors (part v controller).floors (part v c)

-- core d and no other won round r, with the count that it had seen
pub record IsSoleWinner (v : View) (r count d : ℕ) : Type 0 where
  pub core : d < v.cores
  pub entry : Entry
  pub entered : HasEntry v d r entry
  pub won : entry.won ≡ true
  pub seen : entry.seen ≡ count
  pub only : (other : ℕ) (e : Entry) → HoldsCore v other → HasEntry v other r e → e.won ≡ true → other ≡ d

-- a view that holds every core shows who won a round
abbrev pub ShowsOneWinner : View → Type 0
ShowsOneWinner v = ((c : ℕ) → c < v.cores → holds v c ≡ true) → (c r : ℕ) (e : Entry) → HoldsCore v c
    → HasEntry v c r e → (d : ℕ) × IsSoleWinner v r e.used d

-- what every view shows
pub record ViewInvariant (v : View) : Type 0 where
  pub lists : (a : ℕ) → holds v a ≡ true → length (part v a).heard ≡ 32
  pub cores : (c : ℕ) → HoldsCore v c → IsCorePart (part v c)
  pub one_count : HasOneCount v
  pub near : ClocksWithinLag v
  pub floors : CoresKeepFloors v
  pub one_winner : ShowsOneWinner v

-- the count that a core sees is at most the number of events, and no less than any count of its part.
-- Where the view holds the controller, it is the number of floors
pub record IsSight (v : View) (c count : ℕ) : Type 0 where
  pub within : count ≤ v.events
  pub counts : HasCountsUpTo count (part v c)
  pub exact : holds v controller ≡ true → count ≡ length (part v controller).floors

-- the clock of core c that actor a hears is kept as the last one, and isn't below the one before. That
-- of a core differs from its own by at most the lag. Where the view holds core c, it is that core's
pub record IsHeardClock (v : View) (a c clock : ℕ) : Type 0 where
  pub small : clock < 2 ^ 32
  pub keeps : last_heard (hears (part v a) c clock) c ≡ clock
  pub rises : last_heard (part v a) c ≤ clock
  pub near : a < v.cores → (clock ≤ (part v a).clock + v.lag) × ((part v a).clock ≤ clock + v.lag)
  pub exact : holds v c ≡ true → clock ≡ (part v c).clock

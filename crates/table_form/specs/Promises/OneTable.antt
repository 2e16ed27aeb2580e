-- All cores use one plan in a round.
-- Source: the rules of this project.
use Rattle.std.specs.Prelude.{◌≡◌, ℕ, suc, ◌/◌, ◌≤◌, true, List, Some, slice_get}
use Rattle.tab_core.specs.declared.TheConstants.{ROUND}
use Rattle.tab_core.specs.declared.entry.Entry.{Entry}
use Rattle.tab_core.specs.declared.stint.Stint.{Stint}
use Rattle.table_form.specs.Running.State.{State, CoreState, IsCore}

-- the core uses each round's count, as it enters the round and in each stint there
pub record UsesCounts (decided : List ℕ) (core : CoreState) : Type 0 where
  pub entries : (r : ℕ) (e : Entry) → slice_get core.entries r ≡ Some e → slice_get decided r ≡ Some e.used
  pub stints : (k : ℕ) (s : Stint) → slice_get core.stints k ≡ Some s
      → slice_get decided (s.from / ROUND) ≡ Some s.used

-- core c won the round, and what it had seen is the round's count
pub record IsWonBy (cores : List CoreState) (r count c : ℕ) : Type 0 where
  pub core : CoreState
  pub at : slice_get cores c ≡ Some core
  pub entry : Entry
  pub entered : slice_get core.entries r ≡ Some entry
  pub won : entry.won ≡ true
  pub seen : entry.seen ≡ count

-- one core and no other won the round
pub record HasOneWinner (cores : List CoreState) (r count : ℕ) : Type 0 where
  pub winner : ℕ
  pub won_by : IsWonBy cores r count winner
  pub only : (d : ℕ) (core : CoreState) (e : Entry) → slice_get cores d ≡ Some core
      → slice_get core.entries r ≡ Some e → e.won ≡ true → d ≡ winner

-- each round that was entered has one count, which all cores use there; one core and no other won
-- it, by what that core had seen; and it never falls from round to round
pub record HasOneTable (s : State) : Type 0 where
  pub cores : (c : ℕ) (core : CoreState) → IsCore s c core → UsesCounts s.decided core
  pub one_winner : (r d : ℕ) → slice_get s.decided r ≡ Some d → HasOneWinner s.cores r d
  pub rises : (r a b : ℕ) → slice_get s.decided r ≡ Some a → slice_get s.decided (suc r) ≡ Some b → a ≤ b

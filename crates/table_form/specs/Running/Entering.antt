-- A core enters a round.
-- Source: the rules of this project.
use Rattle.std.specs.Prelude.{◌≡◌, ◌⊎◌, ℕ, ◌*◌, true, false, [], ◌∷◌, ◌++◌, Some, length, slice_get, slice_set}
use Rattle.tab_core.specs.declared.TheConstants.{ROUND}
use Rattle.tab_core.specs.declared.entry.Entry.{Entry}
use Rattle.table_form.specs.Running.Phases.{to_decide, phase_of, round_of}
use Rattle.table_form.specs.Running.State.{State, CoreState, IsCore}

-- a core with one more entry
abbrev pub enters : CoreState → Entry → CoreState
enters core e = record core { entries = core.entries ++ e ∷ [] }

-- Decide: core c, which has seen a count, enters its clock's round at the round's start
pub record EntersRound (rounds c : ℕ) (old : State) : Type 0 where
  pub core : CoreState
  pub at : IsCore old c core
  pub seen : ℕ
  pub has_seen : core.seen ≡ Some seen
  pub due : phase_of rounds core ≡ to_decide
  pub start : core.clock ≡ round_of core * ROUND

-- as the first one: what it has seen becomes the round's count, and the entry is won
pub record EntersFirst (rounds c : ℕ) (old new : State) : Type 0 where
  pub round : EntersRound rounds c old
  pub first : length old.decided ≡ round_of round.core
  pub becomes : new ≡ record old {
    decided = old.decided ++ round.seen ∷ [];
    cores = slice_set old.cores c (enters round.core
        (record { round = round_of round.core; used = round.seen; seen = round.seen; won = true }));
  }

-- as a later one: it takes the round's count
pub record EntersAfter (rounds c : ℕ) (old new : State) : Type 0 where
  pub round : EntersRound rounds c old
  pub used : ℕ
  pub count : slice_get old.decided (round_of round.core) ≡ Some used
  pub becomes : new ≡ record old {
    cores = slice_set old.cores c (enters round.core
        (record { round = round_of round.core; used = used; seen = round.seen; won = false }));
  }

-- as the first one or as a later one
abbrev pub Decides : ℕ → ℕ → State → State → Type 0
Decides rounds c old new = EntersFirst rounds c old new ⊎ EntersAfter rounds c old new

-- The stretch of a vCPU as a round's rows are gone over.
use Rattle.std.specs.Prelude.{◌≡◌, ℕ, ◌-◌, ◌<◌, ◌≤◌, ◌&&◌, ◌||◌, Bool, false, nat_lt, not, if◌then◌else◌, List, take}
use Rattle.tab_core.specs.declared.TheConstants.{ROUND}
use Rattle.table_form.specs.Promises.Offered.{some_row_has}
use Rattle.table_form.specs.Tables.Rows.{Row}
use Rattle.table_form.specs.Tables.Serves.{is_cell_of, owner_at}
use Rattle.run_counts.specs.declared.stretch.Stretch.{Stretch}
use Rattle.run_counts.specs.Inside.Tells.{Tells}
use Rattle.run_counts.specs.Stretches.{IsSmall, all_wait, joined, neither}

-- the stretch ends at or before the place, and can be lengthened
pub record EndsBy (place : ℕ) (s : Stretch) : Type 0 where
  pub small : IsSmall s
  pub before : s.ticks ≤ place

-- the stretch tells of the ticks up to its end, where the vCPU waits at those that aren't offered, and
-- from there to the place none is offered
pub record IsToldTo (offered : ℕ → Bool) (place : ℕ) (s : Stretch) : Type 0 where
  pub tells : Tells (λ x. not (offered x)) offered 0 s
  pub before : s.ticks ≤ place
  pub rest : (x : ℕ) → s.ticks ≤ x → x < place → offered x ≡ false

-- the stretch tells of the whole round, unless it is longer than the round
abbrev pub IsToldIfShort : (ℕ → Bool) → Stretch → Type 0
IsToldIfShort offered s = s.ticks ≤ ROUND → IsToldTo offered ROUND s

-- a row before the core's has the vCPU at the place, or the core's has it there before `end`
abbrev pub has_so_far : List Row → ℕ → ℕ → ℕ → ℕ → Bool
has_so_far rows core end v x =
    some_row_has (take core rows) v x || (nat_lt x end && is_cell_of v (owner_at rows core x))

-- the stretch once the round is over
abbrev pub closed : Bool → Stretch → Stretch
closed has_task s = if has_task then joined s (all_wait (ROUND - s.ticks)) else neither ROUND

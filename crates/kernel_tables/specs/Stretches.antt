-- Where a vCPU's slots are: on which core it is at a place of the round, and for how long.
-- Source: the rules of this project.
use Rattle.std.specs.Prelude.{◌≡◌, ◌≢◌, ◌⊎◌, ℕ, ◌<◌, ◌≤◌, Option, Some, None}
use Rattle.tab_core.specs.declared.TheConstants.{ROUND}
use Rattle.table_form.specs.Tables.Plans.{PlanView}
use Rattle.table_form.specs.Tables.Serves.{owner_at}

-- at the place the vCPU is in the slot of this core, or in none
abbrev pub IsAt : PlanView → ℕ → ℕ → Option ℕ → Type 0
IsAt plan v place None = (c : ℕ) → owner_at plan.rows c place ≢ Some v
IsAt plan v place (Some c) = owner_at plan.rows c place ≡ Some v

-- from the place to the end the vCPU is there, and at the end the round ends or it is somewhere else
pub record IsStretch (plan : PlanView) (v place : ℕ) (core : Option ℕ) (end : ℕ) : Type 0 where
  pub after : place < end
  pub within : end ≤ ROUND
  pub there : (x : ℕ) → place ≤ x → x < end → IsAt plan v x core
  pub maximal : (end ≡ ROUND) ⊎ (IsAt plan v end core → ⊥)

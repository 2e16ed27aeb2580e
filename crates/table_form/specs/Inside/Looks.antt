-- What the code knows of a place before the end of its span is found.
use Rattle.std.specs.Prelude.{◌≡◌, ◌↔◌, ℕ, ◌<◌, ◌≤◌, IsTrue, length}
use Rattle.tab_core.specs.declared.TheConstants.{MAX_VCPUS, ROUND}
use Rattle.tab_core.specs.VcpuSets.{has_vcpu}
use Rattle.table_form.specs.declared.spot.Spot.{Spot}
use Rattle.table_form.specs.Tables.Plans.{PlanView}
use Rattle.table_form.specs.Tables.Serves.{owner_at}
use Rattle.table_form.specs.Tables.Spots.{IsAway, SameSpot}

-- the owner and the vCPUs away at the place; up to the spot's end no row changes its owner
pub record IsLook (plan : PlanView) (c place : ℕ) (spot : Spot) : Type 0 where
  pub owner : spot.owner ≡ owner_at plan.rows c place
  pub size : length spot.away ≡ MAX_VCPUS
  pub away : (v : ℕ) → v < MAX_VCPUS → (IsTrue (has_vcpu spot.away v) ↔ IsAway plan c place v)
  pub after : place < spot.end
  pub within : spot.end ≤ ROUND
  pub few : length plan.homes ≤ MAX_VCPUS
  pub steady : (d x : ℕ) → place ≤ x → x < spot.end → owner_at plan.rows d place ≡ owner_at plan.rows d x

-- the owner and the vCPUs away at the place, where the places up to the spot's end are known to be
-- alike
pub record IsSpotSoFar (plan : PlanView) (c place : ℕ) (spot : Spot) : Type 0 where
  pub owner : spot.owner ≡ owner_at plan.rows c place
  pub size : length spot.away ≡ MAX_VCPUS
  pub away : (v : ℕ) → v < MAX_VCPUS → (IsTrue (has_vcpu spot.away v) ↔ IsAway plan c place v)
  pub after : place < spot.end
  pub within : spot.end ≤ ROUND
  pub alike : (x : ℕ) → place ≤ x → x < spot.end → SameSpot plan c place x

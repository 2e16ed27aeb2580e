-- What a place of a core's row shows: the slot's owner, who of the core's vCPUs is on another core,
-- and how long that lasts.
-- Source: the rules of this project; that a vCPU which another core's table has at that time takes
-- no part in the second level is as in M. Vanga, A. Gujarati, B. B. Brandenburg, "Tableau: a
-- high-throughput and predictable VM scheduler for high-density workloads", EuroSys 2018.
use Rattle.std.specs.Prelude.{◌≡◌, ◌≢◌, ◌⊎◌, ◌↔◌, ℕ, ◌<◌, ◌≤◌, IsTrue, List, [], ◌∷◌, Some, length}
use Rattle.tab_core.specs.declared.TheConstants.{MAX_VCPUS, ROUND}
use Rattle.tab_core.specs.VcpuSets.{has_vcpu}
use Rattle.table_form.specs.declared.spot.Spot.{Spot}
use Rattle.table_form.specs.Tables.Homes.{IsHome}
use Rattle.table_form.specs.Tables.Plans.{PlanView}
use Rattle.table_form.specs.Tables.Serves.{owner_at}

-- the vCPU's home is this core, and another core's row has it at the place
pub record IsAway (plan : PlanView) (c place v : ℕ) : Type 0 where
  pub home : IsHome plan.homes c v
  pub other : ℕ
  pub elsewhere : other ≢ c
  pub stands : owner_at plan.rows other place ≡ Some v

-- two places of the core's row have one owner and the same vCPUs away
pub record SameSpot (plan : PlanView) (c x y : ℕ) : Type 0 where
  pub owner : owner_at plan.rows c x ≡ owner_at plan.rows c y
  pub away : (v : ℕ) → IsAway plan c x v → IsAway plan c y v
  pub back : (v : ℕ) → IsAway plan c y v → IsAway plan c x v

-- the span of the place ends there: the places up to it are alike, and there the round ends or the
-- next place differs
pub record IsSpanEnd (plan : PlanView) (c place end : ℕ) : Type 0 where
  pub after : place < end
  pub within : end ≤ ROUND
  pub alike : (x : ℕ) → place ≤ x → x < end → SameSpot plan c place x
  pub maximal : (end ≡ ROUND) ⊎ (SameSpot plan c place end → ⊥)

-- what the place of the core's row shows
pub record IsSpot (plan : PlanView) (c place : ℕ) (spot : Spot) : Type 0 where
  pub owner : spot.owner ≡ owner_at plan.rows c place
  pub away : (v : ℕ) → v < MAX_VCPUS → (IsTrue (has_vcpu spot.away v) ↔ IsAway plan c place v)
  pub span : IsSpanEnd plan c place spot.end

-- from the one place to the other the core's row has the spans that end at these places
abbrev pub AreSpans : PlanView → ℕ → ℕ → List ℕ → ℕ → Type 0
AreSpans plan c from [] to = from ≡ to
AreSpans plan c from (end ∷ ends) to = IsSpanEnd plan c from end × AreSpans plan c end ends to

-- up to the place the core's row has so many spans
pub record HasSpans (plan : PlanView) (c to count : ℕ) : Type 0 where
  pub ends : List ℕ
  pub spans : AreSpans plan c 0 ends to
  pub count_is : length ends ≡ count

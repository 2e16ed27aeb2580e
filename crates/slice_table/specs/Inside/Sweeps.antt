-- What a sweep over rows knows: which rows matter to a core, how far it has come in each, and what
-- the place shows up to the next end of a segment.
use Rattle.std.specs.Prelude.{◌≡◌, ◌≢◌, ◌↔◌, ℕ, ◌<◌, ◌≤◌, false, IsTrue, List, Some, length, slice_get, slice_index}
use Rattle.tab_core.specs.declared.TheConstants.{MAX_VCPUS, ROUND}
use Rattle.tab_core.specs.VcpuSets.{has_vcpu}
use Rattle.table_form.specs.declared.spot.Spot.{Spot}
use Rattle.table_form.specs.Tables.Homes.{IsHome}
use Rattle.table_form.specs.Tables.Plans.{PlanView}
use Rattle.table_form.specs.Tables.Rows.{Row}
use Rattle.table_form.specs.Tables.Segments.{SegmentView, segments_from}
use Rattle.table_form.specs.Tables.Serves.{owner_at}
use Rattle.slice_table.specs.declared.scope.Scope.{Scope}

-- the row's segments before the number end at or before the place
pub record IsPast (row : Row) (place number : ℕ) : Type 0 where
  pub within : number ≤ length (segments_from 0 row)
  pub passed : (j : ℕ) (s : SegmentView) → j < number → slice_get (segments_from 0 row) j ≡ Some s
      → s.end ≤ place

-- in each row the sweep is at a number whose segments before it are past
abbrev pub ArePast : List Row → ℕ → List ℕ → Type 0
ArePast rows place numbers = (d : ℕ) (row : Row) → slice_get rows d ≡ Some row
    → IsPast row place (slice_index numbers d)

-- among so many rows these are not the core's, and each that has a vCPU whose home is the core is one
pub record AreOthers (plan : PlanView) (c count : ℕ) (others : List ℕ) : Type 0 where
  pub within : (k : ℕ) → k < length others → slice_index others k < count
  pub other : (k : ℕ) → k < length others → slice_index others k ≢ c
  pub listed : (d v x : ℕ) → d < count → d ≢ c → IsHome plan.homes c v → owner_at plan.rows d x ≡ Some v
      → (k : ℕ) × (k < length others) × (slice_index others k ≡ d)

-- the core, the vCPUs at home on it, those of them that aren't capped, and the other rows that have some of
-- those at home
pub record IsScope (plan : PlanView) (scope : Scope) : Type 0 where
  pub core : scope.core < length plan.rows
  pub home : (v : ℕ) → v < MAX_VCPUS → (IsTrue (has_vcpu scope.home v) ↔ IsHome plan.homes scope.core v)
  pub sharers : (v : ℕ) → v < MAX_VCPUS → (IsTrue (has_vcpu scope.sharers v)
      ↔ (IsHome plan.homes scope.core v × (has_vcpu plan.capped v ≡ false)))
  pub few : length plan.homes ≤ MAX_VCPUS
  pub others : AreOthers plan scope.core (length plan.rows) scope.others.items

-- what the core's row and so many of the other rows show: the owner and the vCPUs away; up to the
-- spot's end none of these rows changes its owner
pub record IsSightOf (plan : PlanView) (scope : Scope) (place count : ℕ) (spot : Spot) : Type 0 where
  pub owner : spot.owner ≡ owner_at plan.rows scope.core place
  pub size : length spot.away ≡ MAX_VCPUS
  pub found : (v : ℕ) → v < MAX_VCPUS → IsTrue (has_vcpu spot.away v)
      → IsTrue (has_vcpu scope.home v) × (d : ℕ) × (d ≢ scope.core) × (owner_at plan.rows d place ≡ Some v)
  pub all : (k v : ℕ) → k < count → v < MAX_VCPUS → IsTrue (has_vcpu scope.home v)
      → owner_at plan.rows (slice_index scope.others.items k) place ≡ Some v → IsTrue (has_vcpu spot.away v)
  pub after : place < spot.end
  pub within : spot.end ≤ ROUND
  pub own : (x : ℕ) → place ≤ x → x < spot.end
      → owner_at plan.rows scope.core place ≡ owner_at plan.rows scope.core x
  pub steady : (k x : ℕ) → k < count → place ≤ x → x < spot.end
      → owner_at plan.rows (slice_index scope.others.items k) place
      ≡ owner_at plan.rows (slice_index scope.others.items k) x

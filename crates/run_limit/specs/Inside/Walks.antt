-- What is known on the way to the count of a plan's spans: which rows have cells of which cores' vCPUs, and what
-- those rows show at a place.
use Rattle.std.specs.Prelude.{◌≡◌, ◌≢◌, ℕ, ◌+◌, ◌<◌, ◌≤◌, true, false, if◌then◌else◌, nat_le, List, [], ◌∷◌, Option, Some, length, slice_get, slice_index_or}
use Rattle.tab_core.specs.declared.TheConstants.{ROUND}
use Rattle.table_form.specs.Tables.Homes.{IsHome}
use Rattle.table_form.specs.Tables.Plans.{PlanView}
use Rattle.table_form.specs.Tables.Rows.{Row}
use Rattle.table_form.specs.Tables.Segments.{SegmentView, segments_from}
use Rattle.table_form.specs.Tables.Serves.{owner_at}
use Rattle.table_form.specs.Tables.Spots.{HasSpans, IsAway, SameSpot}
use Rattle.run_limit.specs.declared.lanes.Lane.{Lane}
use Rattle.run_limit.specs.declared.lanes.Lanes.{Lanes}
use Rattle.run_limit.specs.declared.visits.Visits.{Visits}

-- no vCPU of the core is ever on another one
abbrev pub IsNobodyAway : PlanView → ℕ → Type 0
IsNobodyAway plan c = (x v : ℕ) → IsAway plan c x v → ⊥

-- the row is marked as one that has cells of the core's vCPUs
pub record IsSeen (visits : Visits) (c d : ℕ) : Type 0 where
  pub row : slice_index_or (slice_index_or visits.rows c []) d false ≡ true
  pub some : slice_index_or visits.some c false ≡ true

-- each row that has cells of another core's vCPU is marked
abbrev pub AreVisits : PlanView → Visits → Type 0
AreVisits plan visits = (c d v x : ℕ) → c ≢ d → IsHome plan.homes c v → owner_at plan.rows d x ≡ Some v
    → IsSeen visits c d

-- how many of the segments, from the first on, end at the tick or before it
abbrev pub passed : List SegmentView → ℕ → ℕ
passed [] x = 0
passed (t ∷ ts) x = if nat_le t.end x then passed ts x + 1 else 0

-- so many of the row's segments end at the tick or before it
abbrev pub ArePassed : List Row → ℕ → ℕ → ℕ → Type 0
ArePassed rows d x count = (row : Row) → slice_get rows d ≡ Some row → count ≡ passed (segments_from 0 row) x

-- the row has the core's vCPU at the tick, or none of the core's where this is none
pub record Shows (plan : PlanView) (c x d : ℕ) (owner : Option ℕ) : Type 0 where
  pub home : (v : ℕ) → owner ≡ Some v → IsHome plan.homes c v
  pub stands : (v : ℕ) → owner ≡ Some v → owner_at plan.rows d x ≡ Some v
  pub only : (v : ℕ) → IsHome plan.homes c v → owner_at plan.rows d x ≡ Some v → owner ≡ Some v

-- from the place up to the lane's end its row shows the lane's owner
pub record IsLane (plan : PlanView) (c place : ℕ) (lane : Lane) : Type 0 where
  pub there : lane.row < length plan.rows
  pub other : lane.row ≢ c
  pub after : place < lane.end
  pub within : lane.end ≤ ROUND
  pub next : ArePassed plan.rows lane.row lane.end lane.next
  pub shows : (x : ℕ) → place ≤ x → x < lane.end → Shows plan c x lane.row lane.owner

-- the lane is one of them
pub record IsListed (lanes : Lanes) (at : ℕ) (lane : Lane) : Type 0 where
  pub counted : at < lanes.count
  pub is : slice_get lanes.items at ≡ Some lane

-- one of the lanes is that of the row
pub record HasLane (lanes : Lanes) (d : ℕ) : Type 0 where
  pub at : ℕ
  pub lane : Lane
  pub listed : IsListed lanes at lane
  pub row : lane.row ≡ d

-- each other row that ever has a vCPU of the core has a lane
abbrev pub AreAllLanes : PlanView → ℕ → Lanes → Type 0
AreAllLanes plan c lanes = (d v x : ℕ) → c ≢ d → IsHome plan.homes c v → owner_at plan.rows d x ≡ Some v
    → HasLane lanes d

-- from the place up to its end each lane's row shows the lane's owner
abbrev pub AreLanes : PlanView → ℕ → ℕ → Lanes → Type 0
AreLanes plan c place lanes = (at : ℕ) (lane : Lane) → IsListed lanes at lane → IsLane plan c place lane

-- at the tick each lane's row shows the owner that it had
abbrev pub AreBefore : PlanView → ℕ → ℕ → Lanes → Type 0
AreBefore plan c x lanes = (at : ℕ) (lane : Lane) → IsListed lanes at lane → Shows plan c x lane.row lane.was

-- no lane ends before the place
abbrev pub EndFrom : ℕ → Lanes → Type 0
EndFrom place lanes = (at : ℕ) (lane : Lane) → IsListed lanes at lane → place ≤ lane.end

-- a lane has the vCPU
pub record IsHere (lanes : Lanes) (v : ℕ) : Type 0 where
  pub at : ℕ
  pub lane : Lane
  pub listed : IsListed lanes at lane
  pub owner : lane.owner ≡ Some v

-- a lane had it
pub record WasHere (lanes : Lanes) (v : ℕ) : Type 0 where
  pub at : ℕ
  pub lane : Lane
  pub listed : IsListed lanes at lane
  pub was : lane.was ≡ Some v

-- the lanes have the vCPUs that they had
pub record AreSame (lanes : Lanes) : Type 0 where
  pub stay : (v : ℕ) → WasHere lanes v → IsHere lanes v
  pub are_old : (v : ℕ) → IsHere lanes v → WasHere lanes v

-- the owner is a vCPU that no lane has
pub record IsGone (lanes : Lanes) (owner : Option ℕ) : Type 0 where
  pub vcpu : ℕ
  pub is : owner ≡ Some vcpu
  pub gone : IsHere lanes vcpu → ⊥

-- the owner is a vCPU that no lane had
pub record IsNew (lanes : Lanes) (owner : Option ℕ) : Type 0 where
  pub vcpu : ℕ
  pub is : owner ≡ Some vcpu
  pub new : WasHere lanes vcpu → ⊥

-- up to the place the core's row has so many spans, the last of which begins there and isn't known to end
pub record AreSpansCounted (plan : PlanView) (c place begin count : ℕ) : Type 0 where
  pub before : ℕ
  pub spans : HasSpans plan c begin before
  pub count_is : count ≡ before + 1
  pub begun : begin < place
  pub few : count ≤ begin + 1
  pub alike : (x : ℕ) → begin ≤ x → x < place → SameSpot plan c begin x

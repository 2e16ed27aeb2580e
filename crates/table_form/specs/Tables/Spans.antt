-- What a place of a core's row shows to a dispatcher: the slot's owner, who may share the core's
-- unused time, and how long that lasts.
-- Source: as for the places of a row in Spots.
use Rattle.std.specs.Prelude.{◌≡◌, ◌≢◌, ◌↔◌, ℕ, ◌<◌, Bool, false, List, Option, Some, IsTrue}
use Rattle.tab_core.specs.declared.TheConstants.{MAX_VCPUS}
use Rattle.tab_core.specs.VcpuSets.{has_vcpu}
use Rattle.table_form.specs.Tables.Homes.{IsHome}
use Rattle.table_form.specs.Tables.Plans.{PlanView}
use Rattle.table_form.specs.Tables.Serves.{owner_at}
use Rattle.table_form.specs.Tables.Spots.{IsSpanEnd}

-- the vCPU may share the core's unused time at the place, where it is runnable: its home is this core,
-- it isn't capped, it isn't the slot's owner, and no other core's row has it there
pub record IsSharer (plan : PlanView) (c place v : ℕ) : Type 0 where
  pub home : IsHome plan.homes c v
  pub uncapped : has_vcpu plan.capped v ≡ false
  pub no_owner : owner_at plan.rows c place ≢ Some v
  pub here : (d : ℕ) → d ≢ c → owner_at plan.rows d place ≢ Some v

-- what the place of the core's row shows to a dispatcher
pub record IsSpan (plan : PlanView) (c place : ℕ) (owner : Option ℕ) (sharers : List Bool)
    (end : ℕ) : Type 0 where
  pub owner_is : owner ≡ owner_at plan.rows c place
  pub sharers_are : (v : ℕ) → v < MAX_VCPUS → (IsTrue (has_vcpu sharers v) ↔ IsSharer plan c place v)
  pub span : IsSpanEnd plan c place end

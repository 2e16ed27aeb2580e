-- What the code keeps of a search.
use Rattle.std.specs.Prelude.{◌≡◌, ℕ, ◌<◌, Bool, false, List, length, slice_index, slice_index_or}
use Rattle.flow_net.specs.declared.demands.Demands.{Demands}
use Rattle.flow_net.specs.declared.flow.Flow.{Flow}
use Rattle.flow_net.specs.declared.reach.Link.{Link}
use Rattle.flow_net.specs.declared.reach.Reach.{Reach}
use Rattle.flow_net.specs.Load.{Load}
use Rattle.flow_net.specs.Rows.{row_at, ticks_at}
use Rattle.flow_net.specs.Flows.{flow_of, lack_of}
use Rattle.flow_net.specs.Inside.Demanded.{IsFlowOf, load}
use Rattle.flow_net.specs.Inside.Reach.{Reached, IsSearch, CanReach, IsReadUpTo, IsRooted}

-- a link of the queue
abbrev pub link_at : List Link → ℕ → Link
link_at queue x = slice_index_or queue x (record { interval = 0; vcpu = 0; back = 0 })

-- what lists say of a search
abbrev pub reached : List Bool → List (List ℕ) → List Link → ℕ → Reached
reached near scans queue tail = record {
  near = λ i. slice_index_or near i false;
  scan = λ v i. ticks_at scans i v;
  at = λ x. (link_at queue x).interval;
  by = λ x. (link_at queue x).vcpu;
  back = λ x. (link_at queue x).back;
  tail = tail;
}

-- what the code has reached
abbrev pub reached_of : Reach → Reached
reached_of r = reached r.near.items r.scans.items r.queue.items r.tail

-- a place for each interval and each edge
pub record HasPlaces (l : Load) (r : Reach) : Type 0 where
  pub near : length r.near.items ≡ l.count
  pub scans : length r.scans.items ≡ l.count
  pub scan : (i : ℕ) → i < l.count → length (row_at r.scans.items i) ≡ l.width
  pub queue : length r.queue.items ≡ l.count

-- the code's search is one from its root
abbrev pub IsSearchOf : Demands → Flow → Reach → Type 0
IsSearchOf d f r = IsSearch (load d) (flow_of f.rows.items) r.root_vcpu r.root_job (reached_of r)

-- a job may be read next
abbrev pub CanReachOf : Demands → Flow → Reach → ℕ → ℕ → ℕ → Type 0
CanReachOf d f r u k back =
    CanReach (load d) (flow_of f.rows.items) r.root_vcpu r.root_job (reached_of r) u k back

-- an edge of the root was read
abbrev pub IsRootedOf : Demands → Flow → Reach → Type 0
IsRootedOf d f r = IsRooted (load d) (lack_of f.lacks.items) r.root_vcpu r.root_job (reached_of r)

-- the first links have no room, and were read back
abbrev pub IsReadUpToOf : Demands → Flow → Reach → ℕ → Type 0
IsReadUpToOf d f r head =
    IsReadUpTo (load d) (flow_of f.rows.items) (λ i. slice_index f.room.items i) (reached_of r) head

-- what a network keeps: a flow with no short interval, and places for a search
pub record IsNetworkKept (d : Demands) (f : Flow) (r : Reach) : Type 0 where
  pub flow_ok : IsFlowOf d f (load d).count
  pub places : HasPlaces (load d) r

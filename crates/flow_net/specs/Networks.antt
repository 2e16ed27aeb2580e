-- A flow network of vCPUs and intervals: what is due, the intervals, and the flow so far.
-- Source: W. A. Horn, "Some simple scheduling algorithms", Naval Research Logistics Quarterly 21,
-- 1974: jobs are fed from a source, intervals drain into a sink, and a job may be worked on in the
-- intervals of its window.
use Rattle.std.specs.Prelude.{◌≡◌, ℕ, ◌+◌, ◌-◌, ◌*◌, ◌<◌, Bool, if◌then◌else◌, List}
use Rattle.tab_core.specs.Sums.{total}
use Rattle.flow_net.specs.Load.{IsLoad, Load, given, jobs, span, used}
use Rattle.flow_net.specs.Flows.{FitsCores, IsNet, all_lacks, flow_of, flow_sum, load_of}
use Rattle.flow_net.specs.Counts.{admitted, admitted_below, is_due, job_count, jobs_due}

-- what each vCPU is due in each of its periods, the marks that cut the round, and how many cores
pub record DemandsView : Type 0 where
  pub costs : List ℕ
  pub periods : List ℕ
  pub marks : List ℕ
  pub cores : ℕ

-- the demands, the marks and the cores as a load
abbrev pub load_of_view : DemandsView → Load
load_of_view d = load_of d.costs d.periods d.marks d.cores

-- the demands; in each interval the ticks of each vCPU and the room that is left; and what each job
-- of each vCPU still needs
pub record NetView : Type 0 where
  pub demands : DemandsView
  pub rows : List (List ℕ)
  pub lacks : List (List ℕ)
  pub room : List ℕ

-- what all jobs still need
abbrev pub lacks_of : NetView → ℕ
lacks_of net = all_lacks (load_of_view net.demands) net.lacks

-- the ticks that all jobs get together in the network
abbrev pub flow_in : NetView → ℕ
flow_in net = flow_sum (load_of_view net.demands) net.rows

-- the demands are a load that fits the cores, and the flow is one of them
pub record IsNetwork (net : NetView) : Type 0 where
  pub load_ok : IsLoad (load_of_view net.demands)
  pub fits : FitsCores (load_of_view net.demands)
  pub flow_ok : IsNet (load_of_view net.demands) net.rows net.lacks net.room (load_of_view net.demands).count

-- Edges have numbers from 0: first those from the source to the jobs of admitted vCPUs, vCPU by vCPU;
-- then those from an admitted vCPU's jobs to the intervals, interval by interval; then those from the
-- intervals to the sink.

-- the number is of the edge to a vCPU's job
pub record IsToJob (l : Load) (edge v k : ℕ) : Type 0 where
  pub vcpu : v < l.width
  pub due : is_due l v ≡ 1
  pub job_in : k < jobs l v
  pub number : edge ≡ total (jobs_due l) v + k

-- the number is of the edge to an interval from the vCPU's job there
pub record IsToInterval (l : Load) (edge v i : ℕ) : Type 0 where
  pub vcpu : v < l.width
  pub due : is_due l v ≡ 1
  pub interval : i < l.count
  pub number : edge ≡ job_count l + (i * admitted l + admitted_below l v)

-- the number is of the edge from an interval to the sink
pub record IsToSink (l : Load) (edge i : ℕ) : Type 0 where
  pub interval : i < l.count
  pub number : edge ≡ job_count l + (l.count * admitted l + i)

-- the ticks that a job can still get from the source, or that can be taken back from it
abbrev pub left_to_job : NetView → ℕ → ℕ → Bool → ℕ
left_to_job net v k back =
    let l = load_of_view net.demands in
    if back then given l (flow_of net.rows) v k else l.cost v - given l (flow_of net.rows) v k

-- what can still go from a vCPU's job to an interval, or be taken back
abbrev pub left_to_interval : NetView → ℕ → ℕ → Bool → ℕ
left_to_interval net v i back =
    if back then flow_of net.rows v i else span (load_of_view net.demands) i - flow_of net.rows v i

-- what can still go from an interval to the sink, or be taken back
abbrev pub left_to_sink : NetView → ℕ → Bool → ℕ
left_to_sink net i back =
    let l = load_of_view net.demands in
    if back then used l (flow_of net.rows) i else l.cores * span l i - used l (flow_of net.rows) i

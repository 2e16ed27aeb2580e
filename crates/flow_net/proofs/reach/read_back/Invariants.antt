use Rattle.std.proofs.Common.{◌≡◌, ℕ, ◌+◌, ◌<◌}
use Rattle.flow_net.specs.Rows.{ticks_at}
use Rattle.flow_net.specs.Inside.Demanded.{load}
use Rattle.flow_net.specs.Counts.{admitted_below}
use Rattle.flow_net.specs.Inside.Reach.{IsMore, IsJobwise, ReadsMore, scanned}
use Rattle.flow_net.specs.Inside.Reaching.{HasPlaces, IsSearchOf, reached_of, link_at}
use Rattle.flow_net.proofs.reach.read_back.Given as goal

abbrev pub invariant-loop-v : goal.invariant-loop-v
invariant-loop-v g l = record {
  places : HasPlaces (load l.demands) l.reach;
  search : IsSearchOf l.demands l.flow l.reach;
  jobwise : IsJobwise (load l.demands) (reached_of l.reach);
  links : IsMore (reached_of l.initial.reach) (reached_of l.reach);
  reads : ReadsMore (load l.demands) (reached_of l.initial.reach) (reached_of l.reach);
  followed : (v : ℕ) → v < l.v
      → 0 < ticks_at l.flow.rows.items (link_at l.initial.reach.queue.items l.head).interval v
      → 0 < ticks_at l.reach.scans.items (link_at l.initial.reach.queue.items l.head).interval v;
  cost : l.steps + scanned (load l.demands) (reached_of l.initial.reach)
      ≡ l.initial.steps + scanned (load l.demands) (reached_of l.reach) + admitted_below (load l.demands) l.v;
  root_vcpu : l.reach.root_vcpu ≡ l.initial.reach.root_vcpu;
  root_job : l.reach.root_job ≡ l.initial.reach.root_job;
}

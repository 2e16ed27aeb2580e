use Rattle.std.proofs.Common.{◌≡◌, ◌+◌, ◌-◌, ◌*◌, ◌≤◌}
use Rattle.flow_net.specs.Inside.Demanded.{load}
use Rattle.flow_net.specs.Counts.{admitted}
use Rattle.flow_net.specs.Inside.Reach.{IsJobwise, ReadsMore, scanned}
use Rattle.flow_net.specs.Inside.Reaching.{HasPlaces, IsSearchOf, IsReadUpToOf, reached_of}
use Rattle.flow_net.proofs.search.find_room.Given as goal

abbrev pub invariant-loop-head : goal.invariant-loop-head
invariant-loop-head g l = record {
  places : HasPlaces (load l.demands) l.reach;
  search : IsSearchOf l.demands l.flow l.reach;
  jobwise : IsJobwise (load l.demands) (reached_of l.reach);
  reads : ReadsMore (load l.demands) (reached_of l.initial.reach) (reached_of l.reach);
  read_to : IsReadUpToOf l.demands l.flow l.reach l.head;
  within : l.head ≤ l.reach.tail;
  cost : l.steps + scanned (load l.demands) (reached_of l.initial.reach)
      ≡ l.initial.steps + scanned (load l.demands) (reached_of l.reach)
      + l.head * (admitted (load l.demands) + 1);
  root_vcpu : l.reach.root_vcpu ≡ l.initial.reach.root_vcpu;
  root_job : l.reach.root_job ≡ l.initial.reach.root_job;
}

abbrev pub decreases-loop-head : goal.decreases-loop-head
decreases-loop-head g l = (load l.demands).count - l.head

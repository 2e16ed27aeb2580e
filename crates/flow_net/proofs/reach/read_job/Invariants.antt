use Rattle.std.proofs.Common.{◌≡◌, ◌+◌}
use Rattle.flow_net.specs.Inside.Demanded.{load}
use Rattle.flow_net.specs.Inside.Reach.{AreEdgesRead, IsMore, scanned}
use Rattle.flow_net.specs.Inside.Reaching.{CanReachOf, HasPlaces, IsSearchOf, reached_of}
use Rattle.flow_net.proofs.reach.read_job.Given as goal

abbrev pub invariant-loop-j : goal.invariant-loop-j
invariant-loop-j g l = record {
  places : HasPlaces (load l.demands) l.reach;
  search : IsSearchOf l.demands l.flow l.reach;
  can : CanReachOf l.demands l.flow l.reach l.u l.k l.back;
  links : IsMore (reached_of l.initial.reach) (reached_of l.reach);
  reading : AreEdgesRead (load l.demands) (reached_of l.initial.reach) (reached_of l.reach) l.u l.from l.j;
  cost : l.steps + scanned (load l.demands) (reached_of l.initial.reach)
      ≡ l.initial.steps + scanned (load l.demands) (reached_of l.reach);
  root_vcpu : l.reach.root_vcpu ≡ l.initial.reach.root_vcpu;
  root_job : l.reach.root_job ≡ l.initial.reach.root_job;
}

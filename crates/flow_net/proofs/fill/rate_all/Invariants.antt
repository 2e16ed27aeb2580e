-- those of the first vCPUs that want a tick are listed
use Rattle.std.proofs.Common.{◌≡◌, ◌+◌, ◌*◌, ◌≤◌, length}
use Rattle.flow_net.specs.Inside.Demanded.{load}
use Rattle.flow_net.specs.Inside.Filling.{AreVcpus}
use Rattle.flow_net.specs.Counts.{admitted_below}
use Rattle.flow_net.proofs.fill.rate_all.Given as goal

abbrev pub invariant-loop-v : goal.invariant-loop-v
invariant-loop-v g l = record {
  watches : length l.watches.items ≡ (load l.demands).width;
  wanting : length l.wanting.items ≡ (load l.demands).width;
  most : l.tail ≤ l.v;
  listed : AreVcpus (load l.demands).width l.wanting.items l.tail;
  cost : l.steps ≤ l.initial.steps + 2 * admitted_below (load l.demands) l.v;
}

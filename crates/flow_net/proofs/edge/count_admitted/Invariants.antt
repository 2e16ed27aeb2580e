-- the admitted ones of the first vCPUs are counted
use Rattle.std.proofs.Common.{◌≡◌, ◌≤◌}
use Rattle.flow_net.specs.Inside.Demanded.{load}
use Rattle.flow_net.specs.Counts.{admitted_below}
use Rattle.flow_net.proofs.edge.count_admitted.Given as goal

abbrev pub invariant-loop-v : goal.invariant-loop-v
invariant-loop-v l = record {
  counted : l.count ≡ admitted_below (load l.demands) l.v;
  few : l.count ≤ l.v;
}

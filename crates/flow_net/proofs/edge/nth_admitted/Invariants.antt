-- the admitted ones of the first vCPUs are no more than come before the wanted one
use Rattle.std.proofs.Common.{◌≡◌, ◌≤◌}
use Rattle.flow_net.specs.Inside.Demanded.{load}
use Rattle.flow_net.specs.Counts.{admitted_below}
use Rattle.flow_net.proofs.edge.nth_admitted.Given as goal

abbrev pub invariant-loop-v : goal.invariant-loop-v
invariant-loop-v l = record {
  counted : l.before ≡ admitted_below (load l.demands) l.v;
  most : l.before ≤ l.rank;
}

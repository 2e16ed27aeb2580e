-- after the edges to the jobs of the first vCPUs there are so many left
use Rattle.std.proofs.Common.{◌≡◌, ◌+◌}
use Rattle.tab_core.specs.Sums.{total}
use Rattle.flow_net.specs.Inside.Demanded.{load}
use Rattle.flow_net.specs.Counts.{jobs_due}
use Rattle.flow_net.proofs.edge.edge_at.Given as goal

abbrev pub invariant-loop-vcpu : goal.invariant-loop-vcpu
invariant-loop-vcpu l = total (jobs_due (load l.demands)) l.vcpu + l.left ≡ l.number

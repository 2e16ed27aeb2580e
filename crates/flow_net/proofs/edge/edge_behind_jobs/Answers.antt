use Rattle.std.proofs.Common.{◌-◌, ◌≤◌, arith}
use Rattle.std.proofs.lemmas.Nat.{mul-le}
use Rattle.tab_core.specs.declared.TheConstants.{MAX_VCPUS, ROUND}
use Rattle.flow_net.specs.Inside.Demanded.{load}
use Rattle.flow_net.proofs.EdgeLemmas.{admitted_le}
use Rattle.flow_net.proofs.Spans.{count_le}
use Rattle.flow_net.proofs.edge.edge_behind_jobs.Goals as goal

pub overflow_mul-pairs : goal.overflow_mul-pairs
overflow_mul-pairs c =
    let d = c.args.demands.now in
    let few : c.count_admitted-admitted.result ≤ MAX_VCPUS
    = omega (arith, c.count_admitted-admitted.ensures, admitted_le (load d), d.few) in
    let short : c.len.result - 1 ≤ ROUND = omega (arith, c.len.ensures, count_le (load d) d.ok) in
    omega (arith, mul-le (c.len.result - 1) c.count_admitted-admitted.result ROUND MAX_VCPUS short few)

use Rattle.flow_net.specs.Flows.{flow_of}
use Rattle.flow_net.specs.Inside.Demanded.{load}
use Rattle.flow_net.specs.Inside.Lacking.{AreLacksTo}
use Rattle.flow_net.proofs.opening.lacks_of_vcpu.Given as goal

abbrev pub invariant-loop-i : goal.invariant-loop-i
invariant-loop-i l = AreLacksTo (load l.demands) (flow_of l.rows.items) l.v l.lacks.items l.job.end l.job.lack
    l.i

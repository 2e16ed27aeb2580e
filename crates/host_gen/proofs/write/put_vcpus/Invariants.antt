use Rattle.std.proofs.Common.{take, flat_map, Ok}
use Rattle.tab_io.specs.Sinks.{Writes}
use Rattle.host_gen.specs.HostText.{vcpu_text}
use Rattle.host_gen.proofs.write.put_vcpus.Given as goal

-- the vCPUs so far came
abbrev pub invariant-loop-vcpu : goal.invariant-loop-vcpu
invariant-loop-vcpu g l = Writes {U = Unit {0}} (g.K.Sink.state l.fn.sink) (g.K.Sink.state l.sink)
    (flat_map vcpu_text (take l.vcpu-index l.vcpus)) (Ok (tt {0}))

use Rattle.std.proofs.Common.{drop}
use Rattle.tab_io.specs.Sinks.{IsLeft}
use Rattle.tab_words.specs.Texts.{text_of}
use Rattle.vcpu_names.specs.Names.{names_of}
use Rattle.plan_text.specs.PlanLines.{vcpu_lines}
use Rattle.plan_text.proofs.vcpus.put_vcpus.Given as goal

-- the lines of the vCPUs from this one on are left
abbrev pub invariant-loop-v : goal.invariant-loop-v
invariant-loop-v g l = IsLeft (g.K.Sink.state l.fn.sink) (g.K.Sink.state l.sink)
    (text_of (vcpu_lines (names_of l.vcpus) l.tasks l.homes))
    (text_of (vcpu_lines (drop l.v (names_of l.vcpus)) (drop l.v l.tasks) (drop l.v l.homes)))

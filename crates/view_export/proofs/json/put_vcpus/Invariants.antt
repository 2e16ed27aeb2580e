use Rattle.std.proofs.Common.{Ok}
use Rattle.tab_io.specs.Sinks.{Writes}
use Rattle.tab_words.specs.Texts.{texts_below}
use Rattle.view_export.specs.Json.{vcpu_row}
use Rattle.view_export.proofs.json.put_vcpus.Given as goal

-- the rows of the vCPUs so far came
abbrev pub invariant-loop-vcpu : goal.invariant-loop-vcpu
invariant-loop-vcpu g l = Writes {U = Unit {0}} (g.K.Sink.state l.fn.sink) (g.K.Sink.state l.sink)
    (texts_below (vcpu_row l.names l.tasks) l.vcpu) (Ok (tt {0}))

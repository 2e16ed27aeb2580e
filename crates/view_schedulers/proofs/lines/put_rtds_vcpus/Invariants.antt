use Rattle.std.proofs.Common.{Ok}
use Rattle.tab_io.specs.Sinks.{Writes}
use Rattle.tab_words.specs.Texts.{texts_below}
use Rattle.view_schedulers.specs.Lines.{each_vcpu_text, rtds_of}
use Rattle.view_schedulers.proofs.lines.put_rtds_vcpus.Given as goal

-- the lines of the vCPUs so far came
abbrev pub invariant-loop-vcpu : goal.invariant-loop-vcpu
invariant-loop-vcpu g l = Writes {U = Unit {0}} (g.K.Sink.state l.fn.sink) (g.K.Sink.state l.sink)
    (texts_below (each_vcpu_text (rtds_of l.cpus l.tick_ns l.host) l.names l.tasks) l.vcpu) (Ok (tt {0}))

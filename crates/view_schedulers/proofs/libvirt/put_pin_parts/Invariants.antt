use Rattle.std.proofs.Common.{Ok}
use Rattle.tab_io.specs.Sinks.{Writes}
use Rattle.tab_words.specs.Texts.{texts_below}
use Rattle.view_schedulers.specs.Lines.{each_vcpu_text}
use Rattle.view_schedulers.specs.LibvirtLines.{pin_part_of}
use Rattle.view_schedulers.proofs.libvirt.put_pin_parts.Given as goal

-- the parts of the vCPUs so far came
abbrev pub invariant-loop-vcpu : goal.invariant-loop-vcpu
invariant-loop-vcpu g l = Writes {U = Unit {0}} (g.K.Sink.state l.fn.sink) (g.K.Sink.state l.sink)
    (texts_below (each_vcpu_text (pin_part_of l.cpus l.guest) l.names l.tasks) l.vcpu) (Ok (tt {0}))

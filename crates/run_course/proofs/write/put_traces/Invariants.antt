use Rattle.std.proofs.Common.{Ok}
use Rattle.tab_io.specs.Sinks.{Writes}
use Rattle.tab_words.specs.Texts.{texts_below}
use Rattle.vcpu_names.specs.Names.{names_of}
use Rattle.trace_report.specs.TraceText.{trace_text}
use Rattle.run_course.specs.Runs.{kept_stints}
use Rattle.run_course.proofs.write.put_traces.Given as goal

-- the traces so far came
abbrev pub invariant-loop-core : goal.invariant-loop-core
invariant-loop-core g l = Writes {U = Unit {0}} (g.K.Sink.state l.fn.sink) (g.K.Sink.state l.sink)
    (texts_below (λ c. trace_text (names_of l.fn.host.vcpus) l.fn.ran.crew.course c (kept_stints l.fn.ran c)) l.core) (Ok (tt {0}))

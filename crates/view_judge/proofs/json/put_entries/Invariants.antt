use Rattle.std.proofs.Common.{Ok}
use Rattle.tab_io.specs.Sinks.{Writes}
use Rattle.tab_words.specs.Texts.{texts_below}
use Rattle.view_judge.specs.Json.{entry_text}
use Rattle.view_judge.proofs.json.put_entries.Given as goal

-- the texts so far came
abbrev pub invariant-loop-vcpu : goal.invariant-loop-vcpu
invariant-loop-vcpu g l = Writes {U = Unit {0}} (g.K.Sink.state l.fn.sink) (g.K.Sink.state l.sink)
    (texts_below (entry_text l.vcpus l.reports) l.vcpu) (Ok (tt {0}))

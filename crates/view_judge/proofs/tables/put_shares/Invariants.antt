use Rattle.std.proofs.Common.{Ok}
use Rattle.tab_io.specs.Sinks.{Writes}
use Rattle.tab_words.specs.Texts.{texts_below}
use Rattle.view_judge.specs.Tables.{share_row}
use Rattle.view_judge.proofs.tables.put_shares.Given as goal

-- the texts so far came
abbrev pub invariant-loop-vcpu : goal.invariant-loop-vcpu
invariant-loop-vcpu g l = Writes {U = Unit {0}} (g.K.Sink.state l.fn.sink) (g.K.Sink.state l.sink)
    (texts_below (share_row l.width l.vcpus l.reports) l.vcpu) (Ok (tt {0}))

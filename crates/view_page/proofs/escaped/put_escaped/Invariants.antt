use Rattle.std.proofs.Common.{Ok}
use Rattle.tab_io.specs.Sinks.{Writes}
use Rattle.tab_words.specs.Texts.{texts_below}
use Rattle.view_page.specs.Pages.{escaped_at}
use Rattle.view_page.proofs.escaped.put_escaped.Given as goal

-- the bytes so far came
abbrev pub invariant-loop-i : goal.invariant-loop-i
invariant-loop-i g l = Writes {U = Unit {0}} (g.K.Sink.state l.fn.sink) (g.K.Sink.state l.sink)
    (texts_below (escaped_at l.bytes) l.i) (Ok (tt {0}))

use Rattle.std.proofs.Common.{take, flat_map, Ok}
use Rattle.tab_io.specs.Sinks.{Writes}
use Rattle.advice.proofs.TextsLemmas.{spaced_string}
use Rattle.advice.proofs.usage.put_spaced.Given as goal

-- the words so far came
abbrev pub invariant-loop-word : goal.invariant-loop-word
invariant-loop-word g l = Writes {U = Unit {0}} (g.K.Sink.state l.fn.sink) (g.K.Sink.state l.sink)
    (flat_map spaced_string (take l.word-index l.words)) (Ok (tt {0}))

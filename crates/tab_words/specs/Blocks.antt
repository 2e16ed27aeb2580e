-- Lines that are gathered before they are written.
use Rattle.std.specs.Prelude.{◌++◌, List, MatchResult, Result, ℕ}
use Rattle.tab_io.specs.Sinks.{IsLeft, Writes}
use Rattle.tab_io.specs.Views.{SinkView}
use Rattle.tab_io.specs.declared.sink.WriteFault.{WriteFault}

-- a line came after the gathered ones, of which a prefix may have been written, or the sink failed
-- within these and the line
abbrev pub PutsBehind : SinkView → SinkView → List ℕ → List ℕ → List ℕ → Result (Unit {0}) WriteFault → Type 0
PutsBehind old new before behind line result = MatchResult result
    (λ _. IsLeft old new (before ++ line) behind)
    (λ _. Writes old new (before ++ line) result)

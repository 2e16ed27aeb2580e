-- Room in a block for one more line.
use Rattle.std.specs.Prelude.{ℕ, List, MatchResult, Result, take}
use Rattle.tab_io.specs.Sinks.{IsLeft, Writes}
use Rattle.tab_io.specs.Views.{SinkView}
use Rattle.tab_io.specs.declared.sink.WriteFault.{WriteFault}

-- of the gathered bytes a prefix was written, and so many are gathered still; or the sink failed within
-- them
abbrev pub MakesRoom : SinkView → SinkView → List ℕ → ℕ → Result ℕ WriteFault → Type 0
MakesRoom old new block count result = MatchResult result
    (λ left. IsLeft old new (take count block) (take left block))
    (λ _. Writes old new (take count block) result)

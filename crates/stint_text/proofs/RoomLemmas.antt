-- Lines for which no room was made.
use Rattle.std.proofs.Common.{ℕ, List, ◌++◌, Err}
use Rattle.tab_io.specs.Sinks.{Writes}
use Rattle.tab_io.specs.Views.{SinkView}
use Rattle.tab_io.specs.declared.sink.WriteFault.{WriteFault}
use Rattle.tab_io.proofs.SinkLemmas.{writes_stopped}

-- where no room was made, a prefix of the lines with that one is out
pub put_torn : (s t : SinkView) (before line : List ℕ) (e : WriteFault)
    → Writes {U = ℕ} s t before (Err e) → Writes {U = Unit {0}} s t (before ++ line) (Err e)
put_torn s t before line e wrote = writes_stopped s t before line e e wrote

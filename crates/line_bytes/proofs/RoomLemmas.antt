-- Room in a block for one more line.
use Rattle.std.proofs.Common.{ℕ, List, Err}
use Rattle.tab_io.specs.Sinks.{Writes}
use Rattle.tab_io.specs.Views.{SinkView}
use Rattle.tab_io.specs.declared.sink.WriteFault.{WriteFault}

-- a fault is one for each call that answers it
pub failed_alike : {U W : Type 0} (s t : SinkView) (text : List ℕ) (e : WriteFault)
    → Writes {U = U} s t text (Err e) → Writes {U = W} s t text (Err e)
failed_alike s t text e wrote = record { later = wrote.later; bytes = wrote.bytes; fits = wrote.fits }

-- What is answered where an advice isn't written whole.
use Rattle.std.specs.Prelude.{Result, Ok, Err}
use Rattle.tab_io.specs.declared.sink.WriteFault.{WriteFault}
use Rattle.advice.specs.declared.fault.AdviceFault.{AdviceFault}
use Rattle.advice.specs.declared.fault.AdviceFault.TheVariants as fault

-- the answer to an advice that needs no memory
abbrev pub of_sink : Result (Unit {0}) WriteFault → Result (Unit {0}) AdviceFault
of_sink (Ok done) = Ok done
of_sink (Err of_write) = Err (fault.Sink of_write)

use Rattle.std.proofs.Common.{◌≡◌}
use Rattle.round_words.specs.Inside.Known.{raised}
use Rattle.round_words.proofs.heard.raise.Given as goal

abbrev pub invariant-loop-core : goal.invariant-loop-core
invariant-loop-core l = l.clocks ≡ raised l.fn.actor l.fn.floor l.core l.fn.clocks

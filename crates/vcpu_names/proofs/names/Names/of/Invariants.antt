use Rattle.std.proofs.Common.{take}
use Rattle.vcpu_names.specs.Names.{HasNumbers, names_of}
use Rattle.vcpu_names.proofs.names.Names.of.Given as goal

abbrev pub invariant-loop-index : goal.invariant-loop-index
invariant-loop-index l = HasNumbers (take l.index (names_of l.vcpus)) l.numbers

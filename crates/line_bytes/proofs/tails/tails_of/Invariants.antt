use Rattle.std.proofs.Common.{◌≡◌, length}
use Rattle.vcpu_names.specs.Names.{names_of}
use Rattle.line_bytes.specs.Tails.{AreTails}
use Rattle.line_bytes.proofs.tails.tails_of.Given as goal

-- the vCPUs below this one have their tails
abbrev pub invariant-loop-vcpu : goal.invariant-loop-vcpu
invariant-loop-vcpu l = record {
  sized : length l.tails ≡ 257;
  are : AreTails (names_of l.vcpus) l.behind l.vcpu l.tails;
}

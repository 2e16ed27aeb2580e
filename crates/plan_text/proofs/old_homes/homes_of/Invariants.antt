use Rattle.std.proofs.Common.{take}
use Rattle.vcpu_names.specs.Names.{names_of}
use Rattle.plan_text.specs.OldHomes.{AreHomesNamed}
use Rattle.plan_text.proofs.old_homes.homes_of.Given as goal

abbrev pub invariant-loop-vcpu : goal.invariant-loop-vcpu
invariant-loop-vcpu l = AreHomesNamed (names_of l.host.vcpus) (take l.vcpu-index l.vcpus) l.homes.items

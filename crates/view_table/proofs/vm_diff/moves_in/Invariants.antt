use Rattle.std.proofs.Common.{◌≡◌, ◌≤◌}
use Rattle.view_table.specs.Groups.{count_where}
use Rattle.view_table.specs.Sums.{changes_there}
use Rattle.view_table.specs.declared.sums.Matter.TheVariants.{Home}
use Rattle.view_table.proofs.vm_diff.moves_in.Given as goal

abbrev pub invariant-loop-vcpu : goal.invariant-loop-vcpu
invariant-loop-vcpu l = record { value : l.count ≡ count_where (changes_there Home l.old l.new l.vm) l.vcpu; small : l.count ≤ l.vcpu }

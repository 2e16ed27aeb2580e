use Rattle.std.proofs.Common.{◌≡◌}
use Rattle.view_table.specs.Groups.{any_below}
use Rattle.view_table.specs.Sums.{changes_there}
use Rattle.view_table.proofs.sums.changes_in.Given as goal

abbrev pub invariant-loop-vcpu : goal.invariant-loop-vcpu
invariant-loop-vcpu l = l.found ≡ any_below (changes_there l.matter l.old l.new l.vm) l.vcpu

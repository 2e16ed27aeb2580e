use Rattle.std.proofs.Common.{◌≡◌}
use Rattle.view_table.specs.Groups.{most_in}
use Rattle.view_table.specs.Waits.{wait_of}
use Rattle.view_table.proofs.groups.wait_in.Given as goal

abbrev pub invariant-loop-vcpu : goal.invariant-loop-vcpu
invariant-loop-vcpu l = l.wait ≡ most_in (wait_of l.view.slots.items) l.view.names.items l.vm l.vcpu

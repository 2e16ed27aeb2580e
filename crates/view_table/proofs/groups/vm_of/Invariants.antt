use Rattle.std.proofs.Common.{◌≡◌, ◌≤◌, length}
use Rattle.view_table.specs.Groups.{vm_end}
use Rattle.view_table.proofs.groups.vm_of.Given as goal

abbrev pub invariant-loop-k : goal.invariant-loop-k
invariant-loop-k l = record { end : l.end ≡ vm_end l.name l.k; within : l.end ≤ length l.name }

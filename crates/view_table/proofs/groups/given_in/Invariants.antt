use Rattle.std.proofs.Common.{◌≡◌, ◌*◌, ◌^◌, ◌≤◌}
use Rattle.view_table.specs.Groups.{sum_in}
use Rattle.view_table.specs.Table.{given_share}
use Rattle.view_table.proofs.groups.given_in.Given as goal

abbrev pub invariant-loop-vcpu : goal.invariant-loop-vcpu
invariant-loop-vcpu l = record { value : l.share ≡ sum_in (given_share l.view.slots.items) l.view.names.items l.vm l.vcpu; small : l.share ≤ l.vcpu * 2 ^ 52 }

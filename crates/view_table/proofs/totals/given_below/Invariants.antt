use Rattle.std.proofs.Common.{◌≡◌, ◌*◌, ◌^◌, ◌≤◌}
use Rattle.view_table.specs.Totals.{given_below}
use Rattle.view_table.proofs.totals.given_below.Given as goal

abbrev pub invariant-loop-vcpu : goal.invariant-loop-vcpu
invariant-loop-vcpu l = record { value : l.share ≡ given_below l.view.slots.items l.vcpu; small : l.share ≤ l.vcpu * 2 ^ 52 }

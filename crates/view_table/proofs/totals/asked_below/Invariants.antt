use Rattle.std.proofs.Common.{◌≡◌, ◌*◌, ◌^◌, ◌≤◌}
use Rattle.view_table.specs.Totals.{asked_below}
use Rattle.view_table.proofs.totals.asked_below.Given as goal

abbrev pub invariant-loop-vcpu : goal.invariant-loop-vcpu
invariant-loop-vcpu l = record { value : l.share ≡ asked_below l.vcpus l.view.names.items l.vcpu; small : l.share ≤ l.vcpu * 2 ^ 32 }

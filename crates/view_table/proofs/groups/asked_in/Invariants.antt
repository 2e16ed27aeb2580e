use Rattle.std.proofs.Common.{◌≡◌, ◌*◌, ◌^◌, ◌≤◌}
use Rattle.view_table.specs.Groups.{asked_at, asked_ppm, sum_in}
use Rattle.view_table.proofs.groups.asked_in.Given as goal

abbrev pub invariant-loop-vcpu : goal.invariant-loop-vcpu
invariant-loop-vcpu l = record { value : l.share ≡ sum_in (λ v. asked_ppm (asked_at l.vcpus l.view.names.items v)) l.view.names.items l.vm l.vcpu; small : l.share ≤ l.vcpu * 2 ^ 32 }

use Rattle.std.proofs.Common.{◌≡◌, ◌*◌, ◌^◌, ◌≤◌}
use Rattle.std.specs.List.{slice_get}
use Rattle.view_table.specs.Groups.{share_in, sum_in}
use Rattle.view_table.proofs.groups.share_in.Given as goal

abbrev pub invariant-loop-vcpu : goal.invariant-loop-vcpu
invariant-loop-vcpu l = record { value : l.share ≡ sum_in (λ v. share_in (slice_get l.view.tasks.items v)) l.view.names.items l.vm l.vcpu; small : l.share ≤ l.vcpu * 2 ^ 52 }

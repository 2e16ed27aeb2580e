use Rattle.std.proofs.Common.{◌≡◌, drop}
use Rattle.view_table.specs.Table.{asked_of}
use Rattle.view_table.proofs.rows.asked_of.Given as goal

-- what is left decides
abbrev pub invariant-loop-vcpu : goal.invariant-loop-vcpu
invariant-loop-vcpu l = asked_of l.vcpus l.name ≡ asked_of (drop l.vcpu-index l.vcpus) l.name

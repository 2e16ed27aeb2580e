use Rattle.std.proofs.Common.{◌≡◌, ◌++◌, map}
use Rattle.std.specs.List.{range_with_len}
use Rattle.sizes_doc.specs.SizedHost.{sized_vcpu}
use Rattle.sizes_doc.proofs.sized_host.push_machine.Given as goal

-- the vCPUs of the VM so far
abbrev pub invariant-loop-number : goal.invariant-loop-number
invariant-loop-number l = l.vcpus.items ≡ l.fn.vcpus.items ++ map (sized_vcpu l.size l.machine) (range_with_len 0 l.number)

use Rattle.std.proofs.Common.{◌≡◌, ◌++◌, flat_map}
use Rattle.std.specs.List.{range_with_len}
use Rattle.sizes_doc.specs.SizedHost.{machine_vcpus}
use Rattle.sizes_doc.proofs.sized_host.push_size.Given as goal

-- the vCPUs of the VMs so far
abbrev pub invariant-loop-machine : goal.invariant-loop-machine
invariant-loop-machine l = l.vcpus.items ≡ l.fn.vcpus.items ++ flat_map (machine_vcpus l.size) (range_with_len 0 l.machine)

use Rattle.std.proofs.Common.{◌≤◌, length}
use Rattle.tool_hosts.specs.declared.vms.TheConstants.{MAX_VMS}
use Rattle.tool_hosts.proofs.vms.vms_of_sizes.Given as goal

-- the VMs so far are few
abbrev pub invariant-loop-size : goal.invariant-loop-size
invariant-loop-size l = length l.vms.items ≤ MAX_VMS

abbrev pub invariant-loop-machine : goal.invariant-loop-machine
invariant-loop-machine l = length l.vms.items ≤ MAX_VMS

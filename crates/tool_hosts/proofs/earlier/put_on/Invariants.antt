use Rattle.std.proofs.Common.{take}
use Rattle.tool_hosts.specs.Earlier.{PutBack, held_in}
use Rattle.tool_hosts.proofs.earlier.put_on.Given as goal

-- the VMs of the lines so far are back
abbrev pub invariant-loop-stay : goal.invariant-loop-stay
invariant-loop-stay l =
    PutBack l.vms (held_in l.fn.groups) (take l.stay-index l.stays) (held_in l.groups) l.is_back

use Rattle.std.proofs.Common.{◌≡◌}
use Rattle.view_schedulers.specs.LibvirtLines.{has_one_below}
use Rattle.view_schedulers.proofs.libvirt.has_one_below.Given as goal

-- whether one so far was found
abbrev pub invariant-loop-vcpu : goal.invariant-loop-vcpu
invariant-loop-vcpu l = l.found ≡ has_one_below l.names l.guest l.vcpu

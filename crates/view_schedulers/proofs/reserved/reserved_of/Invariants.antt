use Rattle.std.proofs.Common.{◌≡◌, drop}
use Rattle.view_schedulers.specs.Reserved.{reserved_of}
use Rattle.view_schedulers.proofs.reserved.reserved_of.Given as goal

-- what is left decides
abbrev pub invariant-loop-vcpu : goal.invariant-loop-vcpu
invariant-loop-vcpu l = reserved_of l.host l.name ≡ reserved_of (drop l.vcpu-index l.host) l.name

use Rattle.std.proofs.Common.{◌≡◌, drop}
use Rattle.view_schedulers.specs.Reserved.{is_capped}
use Rattle.view_schedulers.proofs.reserved.is_capped.Given as goal

-- what is left decides
abbrev pub invariant-loop-vcpu : goal.invariant-loop-vcpu
invariant-loop-vcpu l = is_capped l.host l.name ≡ is_capped (drop l.vcpu-index l.host) l.name

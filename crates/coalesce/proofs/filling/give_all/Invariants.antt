use Rattle.std.proofs.Common.{◌≡◌, ◌<◌, false}
use Rattle.std.specs.Option.{ForSome}
use Rattle.tab_core.specs.VcpuSets.{has_vcpu}
use Rattle.tab_core.specs.declared.TheConstants.{MAX_VCPUS}
use Rattle.coalesce.proofs.Filled.{HasGiven}
use Rattle.coalesce.proofs.filling.give_all.Given as goal

-- those before this one have the owners that they are given, and where none was given away all are as they were
abbrev pub invariant-loop-at : goal.invariant-loop-at
invariant-loop-at l = record {
  given : HasGiven (has_vcpu l.may_grow) l.sliver l.fn.segments.items l.segments.items l.at
      (record { owner = l.before; end = l.start });
  none : l.some ≡ false → l.segments.items ≡ l.fn.segments.items;
  small : ForSome l.before (λ vcpu. vcpu < MAX_VCPUS);
}

use Rattle.std.proofs.Common.{◌≡◌}
use Rattle.tab_core.proofs.VcpusLemmas.{first_where}
use Rattle.tab_core.proofs.vcpu.Vcpus.runnable.Given as goal

abbrev pub invariant-loop-number : goal.invariant-loop-number
invariant-loop-number l = l.set ≡ first_where (λ vcpu. vcpu.runnable) l.self-inside.items.items l.number

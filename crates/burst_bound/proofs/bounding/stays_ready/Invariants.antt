use Rattle.std.proofs.Common.{ℕ, ◌<◌}
use Rattle.std.specs.Prelude.{IsTrue}
use Rattle.tab_core.specs.VcpuSets.{has_vcpu}
use Rattle.table_form.specs.Running.Courses.{runnable_after}
use Rattle.burst_bound.proofs.bounding.stays_ready.Given as goal

-- the vCPU is runnable after each count so far
abbrev pub invariant-loop-count : goal.invariant-loop-count
invariant-loop-count l = (n : ℕ) → l.fn.event < n → n < l.count
    → IsTrue (has_vcpu (runnable_after l.fn.course n) l.fn.vcpu)

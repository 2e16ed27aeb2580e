use Rattle.std.proofs.Common.{◌≡◌, ℕ, ◌<◌, ◌≤◌, length}
use Rattle.std.specs.Prelude.{false, slice_index}
use Rattle.tab_core.specs.VcpuSets.{has_vcpu}
use Rattle.tab_core.specs.declared.TheConstants.{MAX_VCPUS}
use Rattle.burst_bound.specs.Inside.Bounding.{IsReadyFrom}
use Rattle.burst_bound.proofs.ReadyLemmas.{AreSteady}
use Rattle.burst_bound.proofs.ahead.fill_ready.Given as goal

-- the steady vCPUs are runnable from this count on, and of each other one it is found from when on
abbrev pub invariant-loop-first : goal.invariant-loop-first
invariant-loop-first l = record {
  size : length l.ready ≡ MAX_VCPUS;
  within : l.first ≤ length l.fn.course.ticks;
  steady : AreSteady l.fn.course l.first l.steady;
  others : (v : ℕ) → v < MAX_VCPUS → has_vcpu l.steady v ≡ false
      → IsReadyFrom l.fn.course v (slice_index l.ready v);
}

abbrev pub decreases-loop-first : goal.decreases-loop-first
decreases-loop-first l = l.first

use Rattle.std.proofs.Common.{◌≡◌, ℕ, ◌*◌, ◌-◌, ◌<◌, ◌≤◌, get_or, length, max}
use Rattle.tab_core.specs.declared.TheConstants.{ROUND}
use Rattle.view_table.proofs.waits.end_waits.Given as goal

-- the waits below the vCPU have what ends them, and the others not yet
abbrev pub invariant-loop-vcpu : goal.invariant-loop-vcpu
invariant-loop-vcpu l = record {
  size : length l.waits ≡ length l.initial.waits;
  done : (v : ℕ) → v < l.vcpu
      → get_or l.waits v 0 ≡ max (get_or l.initial.waits v 0) (2 * ROUND - get_or l.ends v 0);
  left : (v : ℕ) → l.vcpu ≤ v → get_or l.waits v 0 ≡ get_or l.initial.waits v 0;
}

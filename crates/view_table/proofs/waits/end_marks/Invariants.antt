use Rattle.std.proofs.Common.{◌≡◌, ℕ, ◌<◌, ◌≤◌, get_or, length}
use Rattle.view_table.specs.Inside.Walks.{last_mark}
use Rattle.view_table.proofs.waits.end_marks.Given as goal

-- the marks below the vCPU are those after both rounds, and the others not yet
abbrev pub invariant-loop-vcpu : goal.invariant-loop-vcpu
invariant-loop-vcpu l = record {
  size : length l.marks ≡ length l.initial.marks;
  done : (v : ℕ) → v < l.vcpu
      → get_or l.marks v 0 ≡ last_mark (get_or l.ends v 0) (get_or l.waits v 0) (get_or l.initial.marks v 0);
  left : (v : ℕ) → l.vcpu ≤ v → get_or l.marks v 0 ≡ get_or l.initial.marks v 0;
}

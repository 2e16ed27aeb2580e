use Rattle.std.proofs.Common.{◌≡◌, ℕ, ◌<◌, Bool, drop, get_or, length}
use Rattle.view_table.specs.Inside.Walks.{IsWalked}
use Rattle.view_table.proofs.waits.walk_round.Given as goal

-- the segments so far are walked for each vCPU
abbrev pub invariant-loop-slot : goal.invariant-loop-slot
invariant-loop-slot l = record {
  ends : length l.ends ≡ length l.initial.ends;
  waits : length l.waits ≡ length l.initial.ends;
  marks : length l.marks ≡ length l.initial.ends;
  walked : (served : ℕ → Bool) (v : ℕ) → v < length l.initial.ends
      → IsWalked served l.order v l.base (get_or l.initial.ends v 0) (get_or l.initial.waits v 0)
      (get_or l.initial.marks v 0)
      → IsWalked served (drop l.slot-index l.order) v l.base (get_or l.ends v 0) (get_or l.waits v 0)
      (get_or l.marks v 0);
}

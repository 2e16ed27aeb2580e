use Rattle.std.proofs.Common.{◌≢◌, ℕ, ◌-◌, ◌<◌, ◌≤◌, Some, length}
use Rattle.tab_core.specs.declared.TheConstants.{ROUND}
use Rattle.table_form.specs.Tables.Serves.{owner_at}
use Rattle.run_counts.specs.Inside.Walks.{HoldsPlace}
use Rattle.run_counts.proofs.walk.next_slot.Given as goal

-- the segment of the number holds `begin`, and up to there no cell is the vCPU's
abbrev pub invariant-seeking : goal.invariant-seeking
invariant-seeking l = record {
  at : l.number < length l.segments → HoldsPlace l.segments l.number l.begin;
  over : length l.segments ≤ l.number → ROUND ≤ l.begin;
  none : (x : ℕ) → l.fn.place ≤ x → x < l.begin → owner_at l.rows l.core x ≢ Some l.fn.vcpu;
}

abbrev pub decreases-seeking : goal.decreases-seeking
decreases-seeking l = length l.segments - l.number

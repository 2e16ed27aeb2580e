use Rattle.std.proofs.Common.{◌≡◌, ℕ, ◌-◌, ◌<◌, ◌≤◌, length}
use Rattle.tab_core.specs.declared.TheConstants.{ROUND}
use Rattle.table_form.specs.Promises.Offered.{some_row_has}
use Rattle.run_counts.specs.declared.walk.TheConstants.{ROWS}
use Rattle.run_counts.specs.Inside.Sweeps.{IsToldTo}
use Rattle.run_counts.specs.Inside.Walks.{IsNext, slot_at}
use Rattle.run_counts.proofs.walk.walk.Given as goal

-- the slots before the place are gone over
abbrev pub invariant-walking : goal.invariant-walking
invariant-walking l = record {
  size : length l.slots ≡ ROWS;
  within : l.place ≤ ROUND;
  told : IsToldTo (some_row_has l.rows l.vcpu) l.place l.stretch;
  next : (d : ℕ) → d < length l.rows → IsNext l.rows d l.vcpu l.place (slot_at l.slots d);
}

abbrev pub decreases-walking : goal.decreases-walking
decreases-walking l = ROUND - l.place

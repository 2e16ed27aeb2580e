use Rattle.std.proofs.Common.{◌≡◌, ◌≤◌, ◌-◌, ℕ}
use Rattle.table_form.specs.Planning.Jobs.{jobs_of}
use Rattle.table_form.specs.Planning.Demand.{demand_in, IsOverloaded}
use Rattle.edf_table.proofs.overload.last_overload.Given as goal

abbrev pub invariant-loop-from : goal.invariant-loop-from
invariant-loop-from l = record {
  within : l.from ≤ l.end;
  value : l.demand ≡ demand_in (jobs_of l.pieces) l.from l.end;
  small : l.demand ≤ l.end - l.from;
  fits_after : (s : ℕ) → l.from ≤ s → IsOverloaded (jobs_of l.pieces) s l.end → ⊥;
}

abbrev pub decreases-loop-from : goal.decreases-loop-from
decreases-loop-from l = l.from

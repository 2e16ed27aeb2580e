use Rattle.std.proofs.Common.{◌-◌, ℕ}
use Rattle.tab_core.specs.declared.TheConstants.{ROUND}
use Rattle.table_form.specs.Tables.Views.{plan_view}
use Rattle.table_form.specs.Inside.Looks.{IsSpotSoFar}
use Rattle.slice_table.specs.Inside.Sweeps.{ArePast}
use Rattle.slice_table.specs.Slices.{AreSpansOf}
use Rattle.slice_table.proofs.sweep.sweep.Given as goal

-- the spans up to a place, and a part of the next
abbrev pub invariant-growing : goal.invariant-growing
invariant-growing l = record {
  from : ℕ;
  done : AreSpansOf (plan_view l.plan) l.scope.core 0 l.spans from;
  part : IsSpotSoFar (plan_view l.plan) l.scope.core from l.spot;
  past : ArePast l.plan.tables.rows l.spot.end l.numbers;
}

abbrev pub decreases-growing : goal.decreases-growing
decreases-growing l = ROUND - l.spot.end

use Rattle.std.proofs.Common.{◌≡◌, ℕ, ◌<◌, length}
use Rattle.std.specs.Prelude.{slice_index}
use Rattle.tab_core.specs.declared.TheConstants.{ROUND}
use Rattle.table_form.specs.Tables.Spots.{HasSpans}
use Rattle.table_form.specs.Tables.Views.{plan_view}
use Rattle.run_limit.proofs.walk.spans_of_rows.Given as goal

-- the rows so far are counted
abbrev pub invariant-loop-row : goal.invariant-loop-row
invariant-loop-row l = record {
  size : length l.counts ≡ 32;
  counted : (c : ℕ) → c < l.row → HasSpans (plan_view l.plan) c ROUND (slice_index l.counts c);
}

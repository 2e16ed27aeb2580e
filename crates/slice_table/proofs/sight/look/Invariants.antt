use Rattle.table_form.specs.Tables.Views.{plan_view}
use Rattle.slice_table.specs.Inside.Sweeps.{ArePast, IsSightOf}
use Rattle.slice_table.proofs.sight.look.Given as goal

abbrev pub invariant-loop-at : goal.invariant-loop-at
invariant-loop-at l = record {
  sight : IsSightOf (plan_view l.plan) l.scope l.place l.at l.spot;
  past : ArePast l.plan.tables.rows l.place l.numbers;
}

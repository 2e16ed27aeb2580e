use Rattle.table_form.specs.Tables.Views.{plan_view}
use Rattle.slice_table.specs.Inside.Sweeps.{AreOthers}
use Rattle.slice_table.proofs.scope.scope_of.Given as goal

abbrev pub invariant-loop-number : goal.invariant-loop-number
invariant-loop-number l = AreOthers (plan_view l.plan) l.core l.number l.others.items

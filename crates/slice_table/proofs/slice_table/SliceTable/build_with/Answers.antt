use Rattle.table_form.specs.Tables.Views.{plan_view}
use Rattle.slice_table.proofs.TableLemmas.{ends_of_spans}
use Rattle.slice_table.proofs.slice_table.SliceTable.build_with.Goals as goal

pub shortest-size-requires : goal.shortest-size-requires
shortest-size-requires c =
    ends_of_spans (plan_view c.args.plan.now) c.args.core c.in_ok-spans.spans c.in_ok-spans.ensures

pub slices_of-requires-clause-ends : goal.slices_of-requires-clause-ends
slices_of-requires-clause-ends c =
    ends_of_spans (plan_view c.args.plan.now) c.args.core c.in_ok-spans.spans c.in_ok-spans.ensures

pub invariant_of-result : goal.invariant_of-result
invariant_of-result c = record {
  are_ends = ends_of_spans (plan_view c.args.plan.now) c.args.core c.in_ok-spans.spans c.in_ok-spans.ensures;
  shortest = c.shortest-size.ensures;
  are_slices = c.in_ok-slices.ensures;
}

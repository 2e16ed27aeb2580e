use Rattle.std.proofs.Common.{◌+◌, ◌∷◌, [], length, ap, subst, sym, ◌∙◌, arith, slice_get}
use Rattle.std.proofs.lemmas.List.{length-append}
use Rattle.flow_net.specs.Allotted.{allotment_view}
use Rattle.wrap_table.specs.Inside.Laying.{IsRowOfCore}
use Rattle.wrap_table.proofs.RowsLemmas.{rows_are_wrapped, rows_more}
use Rattle.wrap_table.proofs.laying.rows_of.Goals as goal

pub loop-core-preserved : goal.loop-core-preserved
loop-core-preserved c =
    let a = allotment_view c.args.allotment.now in
    let rows = c.loop-core.rows.items in
    let row = c.in_ok-row_of.field-0 in
    let inv = c.loop-core.invariant in
    let items = c.in_ok-push.ensures.items in
    let here : IsRowOfCore a (length rows) row =
    subst (λ n. IsRowOfCore a n row) (sym inv.count) c.in_ok-row_of.ensures.row in
    record {
      count = ap length items ∙ length-append rows (row ∷ []) ∙ ap (λ n. n + 1) inv.count;
      size = c.row_of.ensures.size ∙ inv.size;
      rows = λ d r at. rows_more a rows row inv.rows here d r (ap (λ xs. slice_get xs d) (sym items) ∙ at);
      at = c.in_ok-row_of.ensures.next;
    }

pub returns : goal.returns
returns c =
    rows_are_wrapped (allotment_view c.args.allotment.now) c.args.cores c.loop-core.rows.items
    (omega (arith, c.loop-core.invariant.count, c.loop-core-test.false, c.loop-core.auto.core-end))
    c.loop-core.invariant.rows

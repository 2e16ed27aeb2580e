use Rattle.std.proofs.Common.{◌≡◌, ◌*◌, [], length, replicate, ap, subst, sym, ◌∙◌, arith, rules}
use Rattle.std.proofs.lemmas.List.{length-replicate}
use Rattle.table_check.specs.declared.counters.TheConstants.{MAX_PERIODS}
use Rattle.tab_core.specs.declared.TheConstants.{ROUND}
use Rattle.table_form.specs.Tables.Rows.{Row, RisesTo, cells_from}
use Rattle.table_form.specs.Tables.Serves.{cells_within}
use Rattle.table_check.specs.Inside.Counters.{CountSupply, GrowBy}
use Rattle.table_check.proofs.Supplied.{room_for_row, supplied_all, supplied_more, supplied_none}
use Rattle.table_check.specs.Shapes.{rows_of}
use Rattle.table_check.proofs.RawShapes.{length-rows_of, rises_at, row_here}
use Rattle.table_check.proofs.counters.count_supply.Goals as goal

pub loop-row-init : goal.loop-row-init
loop-row-init c =
    let items : c.in_ok-counters.counters.items
    ≡ replicate (length c.args.tasks.now * MAX_PERIODS) 0 = search rules in
    record {
      size = ap length items ∙ length-replicate (length c.args.tasks.now * MAX_PERIODS) 0;
      counted = subst (CountSupply c.args.tasks.now []) (sym items)
          (supplied_none c.args.tasks.now (rows_of c.args.raw.now) (length c.args.tasks.now * MAX_PERIODS));
    }

pub add_row-requires-clause-room : goal.add_row-requires-clause-room
add_row-requires-clause-room c =
    room_for_row c.args.tasks.now (rows_of c.args.raw.now) c.loop-row.row-index c.loop-row.counters.items
    (omega (arith, length-rows_of c.args.raw.now, c.requires.few_rows))
    c.loop-row.invariant.counted

pub add_row-requires-clause-rises : goal.add_row-requires-clause-rises
add_row-requires-clause-rises c =
    subst (λ ss. RisesTo 0 ss ROUND) (sym c.items.ensures)
    (rises_at c.args.raw.now c.loop-row.row-index c.row-item.result c.requires.good c.loop-row-test.true
    c.row-item.is)

pub loop-row-preserved : goal.loop-row-preserved
loop-row-preserved c = record {
  size = c.add_row.ensures.size ∙ c.loop-row.invariant.size;
  counted = supplied_more c.args.tasks.now (rows_of c.args.raw.now) c.loop-row.row-index
      (cells_from 0 c.row-item.result)
      c.loop-row.counters.items c.add_row.new.counters.items
      (omega (arith, length-rows_of c.args.raw.now, c.loop-row-test.true))
      (row_here c.args.raw.now c.loop-row.row-index c.row-item.result c.loop-row-test.true c.row-item.is)
      c.loop-row.invariant.counted
      (subst (λ (row : Row). GrowBy c.args.tasks.now (λ v. cells_within v row) c.loop-row.counters.items
      c.add_row.new.counters.items) (ap (cells_from 0) c.items.ensures) c.add_row.ensures.grown);
}

pub returns-clause-supply : goal.returns-clause-supply
returns-clause-supply c = supplied_all c.args.tasks.now (rows_of c.args.raw.now) c.loop-row.row-index
    c.loop-row.counters.items (omega (arith, length-rows_of c.args.raw.now, c.loop-row-test.false))
    c.loop-row.invariant.counted

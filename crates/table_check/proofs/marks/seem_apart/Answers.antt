use Rattle.std.proofs.Common.{arith, rules, subst, sym}
use Rattle.tab_core.specs.declared.TheConstants.{ROUND}
use Rattle.table_check.specs.Inside.Marks.{MarksRow}
use Rattle.table_form.specs.Tables.Rows.{RisesTo, cells_from}
use Rattle.table_check.specs.Shapes.{rows_of}
use Rattle.table_check.proofs.Marking.{apart_rows, core_more, none_apart}
use Rattle.table_check.proofs.RawShapes.{rises_at}
use Rattle.table_check.proofs.marks.seem_apart.Goals as goal

pub loop-row-init : goal.loop-row-init
loop-row-init c = none_apart (rows_of c.args.raw.now) _

pub mark_row-requires : goal.mark_row-requires
mark_row-requires c =
    subst (λ ss. RisesTo 0 ss ROUND) (sym c.items.ensures)
    (rises_at c.args.raw.now c.loop-row.row-index c.row-item.result c.requires.good c.loop-row-test.true
    c.row-item.is)

pub loop-row-preserved : goal.loop-row-preserved
loop-row-preserved c =
    core_more c.args.raw.now c.loop-row.row-index c.row-item.result c.loop-row.marks.items
    c.mark_row.new.marks.items
    (rises_at c.args.raw.now c.loop-row.row-index c.row-item.result c.requires.good c.loop-row-test.true
    c.row-item.is)
    c.loop-row-test.true c.row-item.is c.loop-row.invariant c.mark_row.ensures.kept
    (subst (λ ss. MarksRow (cells_from 0 ss) ROUND c.loop-row.marks.items c.mark_row.new.marks.items)
    c.items.ensures (c.mark_row.ensures.marked (search rules)))

pub returns : goal.returns
returns c = λ is. apart_rows c.args.raw.now c.loop-row.row-index c.loop-row.marks.items
    (omega (arith, c.loop-row-test.false)) c.loop-row.invariant

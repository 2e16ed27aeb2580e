use Rattle.std.proofs.Common.{List, [], ◌∷◌, ◌++◌, take, ap, subst, sym, ◌∙◌}
use Rattle.std.proofs.lemmas.List.{take_all}
use Rattle.tab_core.specs.declared.TheConstants.{ROUND}
use Rattle.table_form.specs.Tables.Rows.{Row, RisesTo, cells_from}
use Rattle.table_check.specs.Shapes.{rows_of}
use Rattle.table_check.proofs.RawShapes.{rises_at, rows_more}
use Rattle.table_check.proofs.shape.build_rows.Goals as goal

pub of_rising-requires : goal.of_rising-requires
of_rising-requires c =
    subst (λ ss. RisesTo 0 ss ROUND) (sym (c.in_ok-copy.ensures.items ∙ c.items.ensures))
    (rises_at c.args.raw.now c.loop-segments.segments-index c.segments-item.result c.requires.good
    c.loop-segments-test.true c.segments-item.is)

pub loop-segments-preserved : goal.loop-segments-preserved
loop-segments-preserved c =
    c.in_ok-push.ensures.items
    ∙ ap (λ (rows : List Row). rows ++ c.of_rising.result ∷ []) c.loop-segments.invariant
    ∙ ap (λ (row : Row). rows_of (take c.loop-segments.segments-index c.args.raw.now) ++ row ∷ [])
    (c.of_rising.ensures ∙ ap (cells_from 0) (c.in_ok-copy.ensures.items ∙ c.items.ensures))
    ∙ sym (rows_more c.args.raw.now c.loop-segments.segments-index c.segments-item.result
    c.loop-segments-test.true c.segments-item.is)

pub returns : goal.returns
returns c = c.of.ensures ∙ c.loop-segments.invariant
    ∙ ap rows_of (take_all c.loop-segments.segments-index c.args.raw.now c.loop-segments-test.false)

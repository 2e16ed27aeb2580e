use Rattle.std.proofs.Common.{◌≡◌, ◌-◌, List, Some, length, map, get_or, refl, ap, subst, sym, ◌∙◌, arith}
use Rattle.std.specs.Prelude.{slice_get}
use Rattle.std.proofs.lemmas.List.{length-map}
use Rattle.std.proofs.lemmas.Option.{slice_get_read}
use Rattle.tab_core.specs.declared.TheConstants.{ROUND}
use Rattle.table_form.specs.declared.segment.Segment.{Segment}
use Rattle.table_form.specs.Tables.Rows.{Row, RisesTo, cells_from}
use Rattle.table_form.specs.Tables.Segments.{AreMaximal, SegmentView, segment_view, segments_from}
use Rattle.table_form.specs.Tables.Views.{plan_view}
use Rattle.table_form.proofs.RowLemmas.{length-cells_from}
use Rattle.table_form.proofs.SegmentLemmas.{maximal_of_row}
use Rattle.run_limit.proofs.AtHomeLemmas.{segments_are_spans, segments_few}
use Rattle.run_limit.proofs.walk.segments_of_row.Goals as goal

-- the segments are maximal
maximal : (row : Row) (ss : List Segment) → map segment_view ss ≡ segments_from 0 row → cells_from 0 ss ≡ row
    → RisesTo 0 ss ROUND → AreMaximal 0 (map segment_view ss) ROUND
maximal row ss are cells rises =
    let size = length-cells_from 0 ss ROUND rises in
    let same = ap length cells in
    subst (λ (ts : List SegmentView). AreMaximal 0 ts ROUND) (sym are)
    (maximal_of_row 0 row ROUND (omega arith))

pub overflow_cast-result : goal.overflow_cast-result
overflow_cast-result c =
    let ss = c.segments.result.now in
    let of = c.segments.ensures in
    let few = segments_few 0 (map segment_view ss) ROUND
    (maximal c.index-items-row.result ss of.maximal of.cells of.rises) in
    let size = length-map ss segment_view in
    omega arith

pub returns : goal.returns
returns c =
    let plan = plan_view c.args.plan.now in
    let rows : List Row = c.args.plan.now.tables.rows in
    let ss = c.segments.result.now in
    let of = c.segments.ensures in
    let row = c.index-items-row.result in
    let at : slice_get rows c.args.row ≡ Some row =
    slice_get_read rows (length rows) c.args.row row refl c.requires.there
    (c.index-items-row.is ∙ ap (λ (list : List Row). get_or list c.args.row row) c.items.ensures.same) in
    record {
      ends = map (λ (s : Segment). s.end) ss;
      spans = segments_are_spans plan c.args.row 0 row ss c.requires.home at
          (maximal row ss of.maximal of.cells of.rises)
          (λ x low. ap (λ (list : Row). slice_get list x) (sym of.cells)
          ∙ ap (slice_get (cells_from 0 ss)) (let same : x ≡ x - 0 = omega arith in same));
      count_is = length-map ss (λ (s : Segment). s.end);
    }

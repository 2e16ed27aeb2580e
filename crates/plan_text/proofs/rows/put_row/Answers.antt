use Rattle.std.proofs.Common.{◌+◌, ◌≤◌, drop, take, subst, sym, arith}
use Rattle.std.proofs.lemmas.Result.{err_from_is_err_and}
use Rattle.tab_core.specs.declared.TheConstants.{ROUND}
use Rattle.tab_io.proofs.SinkLemmas.{all_left, left_last}
use Rattle.table_form.proofs.Search.{end_within}
use Rattle.table_form.specs.Tables.Segments.{segment_view}
use Rattle.table_form.specs.declared.segment.Segment.{Segment}
use Rattle.plan_text.specs.PlanText.{segment_line}
use Rattle.plan_text.proofs.RowText.{line_behind, line_first, lines_of_row, lines_torn, no_line_left}
use Rattle.plan_text.proofs.rows.put_row.Goals as goal

pub loop-segment-init : goal.loop-segment-init
loop-segment-init g c = record { few = omega arith; left = λ names are. all_left _ _ }

pub returns-in_err-at : goal.returns-in_err-at
returns-in_err-at g c names are =
    let p = err_from_is_err_and c.from_residual.result c.from_residual.ensures.1 in
    let l = c.loop-segment in
    rw p.1 (lines_torn _ _ _ _ (take l.count l.block) (lines_of_row names (drop l.segment-index c.args.segments.now)) _
    (l.invariant.left names are) c.in_err-at.ensures.bytes)

pub put_segment-count-requires-clause-in_round : goal.put_segment-count-requires-clause-in_round
put_segment-count-requires-clause-in_round g c =
    subst (λ (s : Segment). s.end ≤ ROUND) (sym c.segment-item.is)
    (end_within 0 c.args.segments.now ROUND c.loop-segment.segment-index c.segment-item.result c.requires
    c.loop-segment-test.true)

pub loop-segment-preserved : goal.loop-segment-preserved
loop-segment-preserved g c =
    let l = c.loop-segment in
    let segment = c.segment-item.result in
    record {
      few = c.put_segment-count.ensures.end;
      left = λ names are. line_behind _ _ _ (lines_of_row names c.args.segments.now) (take l.count l.block)
          (take c.in_ok-at.at l.block) (take c.put_segment-count.result c.put_segment-count.new.block)
          (segment_line names (segment_view segment))
          (lines_of_row names (drop (l.segment-index + 1) c.args.segments.now))
          (lines_of_row names (drop l.segment-index c.args.segments.now))
          (l.invariant.left names are)
          (line_first names c.args.segments.now l.segment-index segment c.loop-segment-test.true c.segment-item.is)
          c.in_ok-at.ensures.bytes (c.put_segment-count.ensures.bytes names are);
    }

pub returns : goal.returns
returns g c names are =
    let l = c.loop-segment in
    let last = no_line_left names c.args.segments.now l.segment-index (take l.count l.block)
    c.loop-segment-test.false in
    left_last _ _ _ _ _ _ (rw last at (l.invariant.left names are)) c.write_all.ensures

use Rattle.std.proofs.Common.{map, ap, subst, sym}
use Rattle.tab_core.specs.declared.TheConstants.{ROUND}
use Rattle.table_form.specs.Planning.Drafts.{pieces_at}
use Rattle.table_form.specs.Tables.Segments.{AreMaximal, segment_view, segments_from}
use Rattle.coalesce.specs.Inside.Passing.{IsPieceTableOf}
use Rattle.coalesce.specs.Joining.{SwapsTo}
use Rattle.coalesce.specs.Joining.SwapsTo.{Done}
use Rattle.coalesce.proofs.Unswapped.{row_maximal}
use Rattle.coalesce.proofs.joining.join_row.Goals as goal

pub fill_all-requires : goal.fill_all-requires
fill_all-requires c =
    subst (λ segments. AreMaximal 0 (map segment_view segments) ROUND) (sym c.in_ok-from_slice.ensures.items)
    (row_maximal c.args.row.now c.segments-segments.result.now c.segments-segments.ensures.rises
    c.segments-segments.ensures.cells c.segments-segments.ensures.maximal)

pub returns-then-not-has_sliver_between-clause-joined : goal.returns-then-not-has_sliver_between-clause-joined
returns-then-not-has_sliver_between-clause-joined c =
    let same = ap (map segment_view) c.in_ok-from_slice.ensures.items in record {
      end = map segment_view c.in_ok-from_slice.field-0.items;
      swaps = subst (λ row. SwapsTo (pieces_at c.args.pieces.now c.args.core) c.args.sliver row
          (segments_from 0 c.args.row.now)) (sym same)
          (subst (SwapsTo (pieces_at c.args.pieces.now c.args.core) c.args.sliver
          (map segment_view c.segments-segments.result.now)) c.segments-segments.ensures.maximal
          (Done (c.has_sliver_between.ensures c.if-not-has_sliver_between.true
          (pieces_at c.args.pieces.now c.args.core))));
      fills = c.fill_all.ensures;
    }

pub swap_all-requires-clause-maximal : goal.swap_all-requires-clause-maximal
swap_all-requires-clause-maximal c = row_maximal c.args.row.now c.segments-segments.result.now
    c.segments-segments.ensures.rises c.segments-segments.ensures.cells c.segments-segments.ensures.maximal

pub returns-clause-none : goal.returns-clause-none
returns-clause-none c = c.take_pieces.ensures c.args.core c.put_pieces.ensures

pub returns-clause-joined : goal.returns-clause-joined
returns-clause-joined c =
    let pieces = pieces_at c.args.pieces.now c.args.core in
    let of = subst (IsPieceTableOf pieces) (sym c.deref.ensures.value) c.put_pieces.ensures in
    record {
      end = map segment_view c.in_ok-swapped.swapped.items;
      swaps = subst (SwapsTo pieces c.args.sliver (map segment_view c.in_ok-swapped.swapped.items))
          c.segments-segments.ensures.maximal (c.in_ok-swapped.ensures.swaps pieces of);
      fills = c.fill_all-2.ensures;
    }

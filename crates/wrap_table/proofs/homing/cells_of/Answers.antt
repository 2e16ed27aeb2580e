use Rattle.std.proofs.Common.{◌∙◌, arith, inl, inr}
use Rattle.std.proofs.lemmas.Bool.{cases_lt}
use Rattle.std.proofs.lemmas.List.{get_or_past}
use Rattle.wrap_table.proofs.HomingLemmas.{count_end, count_most, count_next, count_row, next_segment, segment_end}
use Rattle.wrap_table.proofs.homing.cells_of.Goals as goal

pub add_cells-requires-clause-rises : goal.add_cells-requires-clause-rises
add_cells-requires-clause-rises c =
    let rises = (next_segment c.segments-segments.result.now c.loop-segment.from c.loop-segment.segment-index
    c.segment-item.result c.loop-segment.invariant.rises c.loop-segment-test.true c.segment-item.is).0 in
    omega arith

pub add_cells-requires-clause-in_round : goal.add_cells-requires-clause-in_round
add_cells-requires-clause-in_round c =
    segment_end c.segments-segments.result.now c.loop-segment.from c.loop-segment.segment-index
    c.segment-item.result c.loop-segment.invariant.rises c.loop-segment-test.true c.segment-item.is

pub add_cells-requires-clause-room : goal.add_cells-requires-clause-room
add_cells-requires-clause-room c = λ v. elim (cases_lt v c.args.width) [
  | inl lt ↦ omega (
    arith,
    c.loop-segment.invariant.cells v lt,
    count_most c.segments-segments.result.now v c.segments-segments.ensures.rises,
  )
  | inr past ↦ omega (
    arith,
    get_or_past c.loop-segment.cells.items v 0 (omega (arith, past, c.loop-segment.invariant.size)),
  )
]

pub loop-segment-preserved : goal.loop-segment-preserved
loop-segment-preserved c =
    let ss = c.segments-segments.result.now in
    let from = c.loop-segment.from in
    let i = c.loop-segment.segment-index in
    let s = c.segment-item.result in
    let inv = c.loop-segment.invariant in
    record {
      size = c.add_cells.ensures.size ∙ inv.size;
      rises = (next_segment ss from i s inv.rises c.loop-segment-test.true c.segment-item.is).1;
      cells = λ v lt. omega (
        arith,
        c.add_cells.ensures.grown v (omega (arith, lt, inv.size)),
        count_next ss v from i s c.loop-segment-test.true c.segment-item.is,
        inv.cells v lt,
      );
    }

pub returns-clause-cells : goal.returns-clause-cells
returns-clause-cells c = λ v lt.
    let ss = c.segments-segments.result.now in
    let none = count_end ss v c.loop-segment.from c.loop-segment.segment-index c.loop-segment-test.false in
    let all = count_row v c.args.row.now ss c.segments-segments.ensures.cells
    c.segments-segments.ensures.rises in
    omega (arith, c.loop-segment.invariant.cells v lt, none, all)

use Rattle.std.proofs.Common.{◌≡◌, ℕ, ◌<◌, ◌≤◌, set, ap, sym, subst, ◌∙◌, arith}
use Rattle.tab_core.specs.declared.TheConstants.{MAX_VCPUS, ROUND}
use Rattle.table_form.specs.Tables.Serves.{owner_at}
use Rattle.table_form.proofs.Shapes.{ahead_more, ahead_start}
use Rattle.run_counts.specs.Inside.Sweeps.{IsToldTo, has_so_far}
use Rattle.run_counts.specs.Stretches.{offered_to, stretch_at}
use Rattle.run_counts.proofs.RowLemmas.{idle_told, row_begins, row_ends, segment_cells, segment_rises, segment_told, segment_within, segments_end}
use Rattle.run_counts.proofs.row_pass.offer_row.Goals as goal
use Rattle.run_counts.proofs.row_pass.offer_row.Goals.{in-Some, in_default}

pub loop-segment-init : goal.loop-segment-init
loop-segment-init c = record {
  size = c.requires.size;
  rises = c.segments-segments.ensures.rises;
  ahead = λ x low. ahead_start c.segments-segments.result.now x c.segments-segments.ensures.rises;
  told = λ v lt short. row_begins c.args.rows.now c.args.core v (stretch_at c.args.stretches.now v)
      (c.requires.told v lt short);
}

pub lengthened-requires-clause-small : goal.lengthened-requires-clause-small
lengthened-requires-clause-small c = λ low.
    let rise = segment_rises c.segments-segments.result.now c.loop-segment.segment-index c.loop-segment.begin
    c.segment-item.result c.loop-segment-test.true c.segment-item.is c.loop-segment.invariant.rises in
    let within = segment_within c.segments-segments.result.now c.loop-segment.segment-index c.segment-item.result
    c.loop-segment-test.true c.segment-item.is c.segments-segments.ensures.rises in
    (c.loop-segment.invariant.told c.index-at.result c.index-at.ensures.small
    (omega (arith, low, rise.0, within))).tells.small

pub lengthened-requires-clause-end : goal.lengthened-requires-clause-end
lengthened-requires-clause-end c =
    let rise = segment_rises c.segments-segments.result.now c.loop-segment.segment-index c.loop-segment.begin
    c.segment-item.result c.loop-segment-test.true c.segment-item.is c.loop-segment.invariant.rises in
    omega (arith, rise.0)

pub loop-segment-preserved : goal.loop-segment-preserved
loop-segment-preserved c =
    let rows = c.args.rows.now in
    let core = c.args.core in
    let ss = c.segments-segments.result.now in
    let i = c.loop-segment.segment-index in
    let begin = c.loop-segment.begin in
    let s = c.segment-item.result in
    let lt = c.loop-segment-test.true in
    let is = c.segment-item.is in
    let rise = segment_rises ss i begin s lt is c.loop-segment.invariant.rises in
    let before : begin < s.end = rise.0 in
    let within : s.end ≤ ROUND = segment_within ss i s lt is c.segments-segments.ensures.rises in
    let cells : (x : ℕ) → begin ≤ x → x < s.end → owner_at rows core x ≡ s.owner =
    λ x low less. segment_cells rows core c.index-rows-core.result ss i x s c.requires.core c.index-rows-core.is
    c.segments-segments.ensures.cells lt is (c.loop-segment.invariant.ahead x low) less in
    record {
      size = c.match-vcpu.auto.stretches ∙ c.loop-segment.invariant.size;
      rises = rise.1;
      ahead = λ x low. ahead_more ss x i s lt is (c.loop-segment.invariant.ahead x (omega arith)) low;
      told = elim c.match-vcpu.branch [
        | in-Some w ↦ (let v = w.in-Some.vcpu in
            let at : w.index-at.result ≡ v = w.index-at.ensures.value in
            segment_told rows core v begin s.end MAX_VCPUS c.loop-segment.stretches c.match-vcpu.stretches
            w.lengthened.result (omega arith) within
            (λ x low less. cells x low less ∙ sym w.in-Some.ensures)
            (omega (arith, at, w.index-at.ensures.small, c.loop-segment.invariant.size))
            (w.stretches-is ∙ ap (λ (j : ℕ). set c.loop-segment.stretches j w.lengthened.result) at)
            (subst (λ (j : ℕ). (stretch_at c.loop-segment.stretches j).ticks ≤ begin
            → w.lengthened.result ≡ offered_to (stretch_at c.loop-segment.stretches j) begin s.end) at
            w.lengthened.ensures.offered)
            (subst (λ (j : ℕ). begin < (stretch_at c.loop-segment.stretches j).ticks
            → ROUND < w.lengthened.result.ticks) at w.lengthened.ensures.late)
            c.loop-segment.invariant.told)
        | in_default w ↦ idle_told rows core begin s.end MAX_VCPUS c.loop-segment.stretches
            c.match-vcpu.stretches (omega arith) within
            (λ x low less. cells x low less ∙ sym w.in_default.ensures)
            w.stretches-is c.loop-segment.invariant.told
      ];
    }

pub returns-clause-told : goal.returns-clause-told
returns-clause-told c = λ v lt short.
    let at_end : c.loop-segment.begin ≡ ROUND = segments_end c.segments-segments.result.now
    c.loop-segment.segment-index c.loop-segment.begin c.loop-segment-test.false c.loop-segment.invariant.rises in
    row_ends c.args.rows.now c.args.core v (stretch_at c.loop-segment.stretches v) c.requires.core
    (subst (λ (x : ℕ). IsToldTo (has_so_far c.args.rows.now c.args.core x v) ROUND
    (stretch_at c.loop-segment.stretches v)) at_end (c.loop-segment.invariant.told v lt short))

use Rattle.std.proofs.Common.{◌≡◌, ℕ, ◌<◌, inl, inr, max, rules, Some, ap, sym, subst, ◌∙◌, arith}
use Rattle.std.proofs.lemmas.Bool.{cases_lt, false≢true}
use Rattle.table_form.specs.declared.segment.Segment.{Segment}
use Rattle.table_form.proofs.SpotLemmas.{owner_read}
use Rattle.run_counts.specs.Inside.Walks.{HoldsPlace}
use Rattle.run_counts.proofs.SegmentLemmas.{first_holds, held_cells, held_within, last_in_round, next_holds, some_segment}
use Rattle.run_counts.proofs.walk.next_slot.Goals as goal
use Rattle.run_counts.proofs.walk.next_slot.Goals.{then-holds, else-holds, else-same-via-then-same+else-segment-place, else-same-via-else-same}

pub seeking-init : goal.seeking-init
seeking-init c =
    let ss = c.segments-segments.result.now in
    elim c.if-holds.branch [
      | then-holds w ↦ (let holds : HoldsPlace ss c.args.guess c.args.place = c.holds.ensures w.if-holds.true in
          record {
            at = λ lt. subst (λ (n : ℕ). HoldsPlace ss n c.if-holds.begin) (sym w.number-is)
                (subst (λ (x : ℕ). HoldsPlace ss c.args.guess x) (sym w.begin-is) holds);
            over = λ le. absurd (omega (arith, holds.there, w.number-is));
            none = λ x low less h. absurd (omega (arith, w.begin-is));
          })
      | else-holds w ↦ (let some = some_segment ss c.segments-segments.ensures.rises in
          record {
            at = λ lt. subst (λ (n : ℕ). HoldsPlace ss n c.if-holds.begin) (sym w.number-is)
                (subst (λ (x : ℕ). HoldsPlace ss 0 x) (sym w.begin-is)
                (first_holds ss c.segments-segments.ensures.rises some));
            over = λ le. absurd (omega (arith, some, w.number-is));
            none = λ x low less h. absurd (omega (arith, w.begin-is));
          })
    ]

pub returns-then-segment-place : goal.returns-then-segment-place
returns-then-segment-place c =
    let ss = c.segments-segments.result.now in
    let n = c.seeking.number in
    let begin = c.seeking.begin in
    let s = c.index-segments-number.result in
    let is = c.index-segments-number.is in
    let rises = c.segments-segments.ensures.rises in
    let holds : HoldsPlace ss n begin = c.seeking.invariant.at c.seeking-test.true in
    let after = holds.after s in
    let end = ap (λ (t : Segment). t.end) is in
    let later : begin < s.end = omega arith in
    let most : c.max.result ≡ max begin c.args.place = search rules in
    record {
      low = omega (arith, most);
      some = λ lt. omega (arith, most, later, c.if-segment-place.true);
      within = held_within ss n begin s rises holds is;
      none = λ x low less. c.seeking.invariant.none x low (omega (arith, most));
      all = λ x low less. owner_read c.args.rows.now c.args.core x c.index-rows-core.result s.owner
          c.requires.core c.index-rows-core.is
          (held_cells c.index-rows-core.result ss n begin x s c.segments-segments.ensures.cells rises holds is
          (omega (arith, most, low)) less)
          ∙ (c.same.ensures.0 c.if-same.true ∙ c.of-owner.ensures);
    }

pub seeking-preserved : goal.seeking-preserved
seeking-preserved c =
    let ss = c.segments-segments.result.now in
    let n = c.seeking.number in
    let begin = c.seeking.begin in
    let s = c.index-segments-number.result in
    let is = c.index-segments-number.is in
    let rises = c.segments-segments.ensures.rises in
    let holds : HoldsPlace ss n begin = c.seeking.invariant.at c.seeking-test.true in
    record {
      at = λ lt. next_holds ss n s rises is lt;
      over = λ le. last_in_round ss n s rises is c.seeking-test.true le;
      none = λ x low less h. elim (cases_lt x begin) [
        | inl early ↦ c.seeking.invariant.none x low early h
        | inr late ↦ (let own : s.owner ≡ Some c.args.vcpu =
            sym (owner_read c.args.rows.now c.args.core x c.index-rows-core.result s.owner
            c.requires.core c.index-rows-core.is
            (held_cells c.index-rows-core.result ss n begin x s c.segments-segments.ensures.cells rises holds is
            late less)) ∙ h in
            elim c.else-same.branch [
              | else-same-via-then-same+else-segment-place w ↦ absurd (omega (
                arith,
                low,
                less,
                w.if-segment-place.false,
              ))
              | else-same-via-else-same w ↦ false≢true (sym w.if-same.false
                  ∙ c.same.ensures.1 (own ∙ sym c.of-owner.ensures))
            ])
      ];
    }

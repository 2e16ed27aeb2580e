use Rattle.std.proofs.Common.{◌<◌, length, length-set, [], ap, arith, ◌∙◌, inl, inr}
use Rattle.std.proofs.lemmas.Bool.{cases_lt}
use Rattle.std.proofs.lemmas.List.{get_or_read}
use Rattle.flow_net.proofs.Cells.{cleared_more, widths_kept, ticks_beyond}
use Rattle.flow_net.proofs.ticks.clear_rows.Goals as goal

pub loop-i-preserved : goal.loop-i-preserved
loop-i-preserved c =
    let rows = c.loop-i.rows in
    let inv = c.loop-i.invariant in
    let in_rows : c.loop-i.i
    < length rows.items =
    omega (arith, c.loop-i-test.true, c.len-i-end.ensures, inv.same_len, c.args.rows.now.ok.0) in
    let row = get_or_read rows.items c.loop-i.i c.index_mut-row.result.now in_rows
    c.index_mut-row.ensures.value [] in
    record {
      same_len = length-set rows.items c.loop-i.i c.clear.new.self ∙ inv.same_len;
      widths = λ j. widths_kept rows.items c.loop-i.i j c.clear.new.self in_rows
          (c.clear.ensures.same_len ∙ ap (λ r. length r) row) ∙ inv.widths j;
      none = cleared_more rows.items c.loop-i.i c.clear.new.self in_rows c.clear.ensures.none
          (λ j p lt. inv.none j p lt);
    }

pub returns-clause-none : goal.returns-clause-none
returns-clause-none c i p = elim (cases_lt i c.loop-i.i) [
  | inl below ↦ c.loop-i.invariant.none i p below
  | inr above ↦ ticks_beyond c.loop-i.rows.items i p
      (omega (
        arith,
        above,
        c.loop-i-test.false,
        c.len-i-end.ensures,
        c.loop-i.invariant.same_len,
        c.args.rows.now.ok.0,
      ))
]

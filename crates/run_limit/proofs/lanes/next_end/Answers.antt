use Rattle.std.proofs.Common.{get_or, inl, inr, ap, arith}
use Rattle.std.proofs.lemmas.Bool.{cases_lt}
use Rattle.std.proofs.lemmas.Option.{slice_get-get_or}
use Rattle.run_limit.specs.declared.lanes.Lane.{Lane}
use Rattle.run_limit.proofs.LaneLemmas.{item_here}
use Rattle.run_limit.proofs.lanes.next_end.Goals as goal

pub loop-at-preserved : goal.loop-at-preserved
loop-at-preserved c =
    let was = c.loop-at.invariant in
    let items = c.args.lanes.now.items in
    let here = c.index-lanes-at.result in
    let least = c.earlier-least.ensures in
    record {
      least = λ k lane lt listed. elim (cases_lt k c.loop-at.at) [
        | inl before ↦ (let old = was.least k lane before listed in omega arith)
        | inr last ↦
            let same = ap (λ (l : Lane). l.end)
            (item_here items c.loop-at.at k here lane (omega arith) listed.is) in
            omega arith
      ];
      within = (let old = was.within in omega arith);
      behind = λ place in_round each.
          (let old = was.behind place in_round each in
          let new = each c.loop-at.at (get_or items c.loop-at.at here) (record {
            counted = c.loop-at-test.true;
            is = slice_get-get_or items c.loop-at.at here (omega arith);
          }) in omega arith);
    }

use Rattle.std.proofs.Common.{ℕ, length, set, inl, inr, ap, subst, sym, ◌∙◌, arith}
use Rattle.std.specs.Prelude.{slice_index}
use Rattle.std.proofs.lemmas.Bool.{cases_eq}
use Rattle.std.proofs.lemmas.List.{get_or-set_other, get_or-set_same, length-set}
use Rattle.tab_core.specs.declared.TheConstants.{ROUND}
use Rattle.table_form.specs.Tables.Spots.{HasSpans}
use Rattle.table_form.specs.Tables.Views.{plan_view}
use Rattle.run_limit.proofs.walk.spans_of_rows.Goals as goal

pub loop-row-preserved : goal.loop-row-preserved
loop-row-preserved c =
    let plan = plan_view c.args.plan.now in
    let was = c.loop-row.invariant in
    let old = c.loop-row.counts in
    let row = c.loop-row.row in
    let new = c.spans_of_row.result in
    let few = c.items-row-end.ensures.few in
    let count = ap length c.items-row-end.ensures.same in
    record {
      size = length-set old row new ∙ was.size;
      counted = λ d lt. elim (cases_eq d row) [
        | inl here ↦
            subst (λ (e : ℕ). HasSpans plan e ROUND (slice_index (set old row new) e)) (sym here)
            (subst (HasSpans plan row ROUND)
            (sym (get_or-set_same old row new 0 (omega (arith, was.size, c.loop-row-test.true))))
            c.spans_of_row.ensures)
        | inr ne ↦
            subst (HasSpans plan d ROUND) (sym (get_or-set_other old row d new 0 ne))
            (was.counted d (omega arith))
      ];
    }

pub returns : goal.returns
returns c = λ d lt. c.loop-row.invariant.counted d
    (omega (arith, ap length c.items-row-end.ensures.same, c.loop-row-test.false))

use Rattle.std.proofs.Common.{ℕ, Option, arith, inl, inr, rules, subst, sym}
use Rattle.std.proofs.lemmas.Bool.{cases_lt}
use Rattle.table_form.specs.Tables.Views.{plan_view}
use Rattle.kernel_tables.specs.Stretches.{IsAt}
use Rattle.kernel_tables.proofs.stretch.stretch_from.Goals as goal

pub growing-preserved : goal.growing-preserved
growing-preserved c =
    let was = c.growing.invariant in
    let next = c.look-next.ensures in
    record {
      after = omega (arith, was.after, next.after);
      within = next.within;
      there = λ x low lt. elim (cases_lt x c.growing.stretch.end) [
        | inl before ↦ was.there x low before
        | inr later ↦ subst (λ (o : Option ℕ). IsAt (plan_view c.args.plan.now) c.args.vcpu x o)
            (sym (c.is_same.ensures.0 (search rules))) (next.there x later lt)
      ];
    }

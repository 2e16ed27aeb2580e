use Rattle.std.proofs.Common.{ℕ, refl, sym, subst, arith}
use Rattle.slice_table.specs.CoreSlices.{AreSlicesOf}
use Rattle.core_workers.proofs.member.Member.make.Goals as goal

pub invariant_of-make_with : goal.invariant_of-make_with
invariant_of-make_with c = omega (arith, c.requires.core, c.outline-outline.ensures.kept.form.outline.few_cores)

pub invariant_of-result : goal.invariant_of-result
invariant_of-result c =
    let made = c.in_ok-state.ensures in
    (subst (λ (k : ℕ). AreSlicesOf c.args.course.now k c.in_ok-slices.slices) (sym made.same.0) c.in_ok-slices.ensures, sym made.same.0)

pub returns : goal.returns
returns c =
    let made = c.in_ok-state.ensures in record {
      actor = record { course_is = refl; core = made.same.0; rounds_is = made.same.1 };
      keep_is = made.same.2;
      agrees = λ v started core fresh. made.agrees c.args.course.now v c.outline-outline.ensures.outline started core fresh;
    }

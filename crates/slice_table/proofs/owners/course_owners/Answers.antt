use Rattle.std.proofs.Common.{◌+◌, sym, subst, arith}
use Rattle.table_form.specs.Tables.Views.{plan_view}
use Rattle.slice_table.specs.Inside.Owners.{AreFirstOwners}
use Rattle.slice_table.proofs.OwnersLemmas.{owners_none, owners_more}
use Rattle.slice_table.proofs.owners.course_owners.Goals as goal

pub loop-number-init : goal.loop-number-init
loop-number-init c = subst (AreFirstOwners c.args.course.now.plans 0) (sym c.in_ok-owners.ensures.items)
    (owners_none c.args.course.now.plans)

pub loop-number-preserved : goal.loop-number-preserved
loop-number-preserved c =
    subst (AreFirstOwners c.args.course.now.plans (c.loop-number.number + 1)) (sym c.in_ok-push.ensures.items)
    (owners_more c.args.course.now.plans c.loop-number.number c.loop-number.owners.items
    c.in_ok-of.field-0 (plan_view c.plan.result.now) c.loop-number.invariant c.plan.ensures.plan c.in_ok-of.ensures)

pub returns : goal.returns
returns c =
    let f = c.loop-number.invariant in record {
      count = omega (
        arith,
        f.count,
        c.plans-number-end.ensures.count,
        c.loop-number-test.false,
        c.loop-number.auto.number-end,
      );
      each = f.each;
    }

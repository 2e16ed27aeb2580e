use Rattle.std.proofs.Common.{◌+◌, Bool, refl, sym, subst, List, arith}
use Rattle.std.proofs.lemmas.Option.{slice_get_read}
use Rattle.table_form.specs.Tables.Plans.{PlanView}
use Rattle.slice_table.specs.Owners.{AreRowOwners}
use Rattle.table_form.specs.Tables.Views.{plan_view}
use Rattle.slice_table.specs.Inside.Tables.{AreFirstTables}
use Rattle.slice_table.proofs.CoreTableLemmas.{tables_none, tables_more}
use Rattle.slice_table.proofs.core_slices.CoreSlices.make_with.Goals as goal

pub loop-number-init : goal.loop-number-init
loop-number-init c = subst (AreFirstTables c.args.course.now.plans c.args.core 0) (sym c.new-tables.ensures.items)
    (tables_none c.args.course.now.plans c.args.core)

pub loop-number-preserved : goal.loop-number-preserved
loop-number-preserved c =
    subst (AreFirstTables c.args.course.now.plans c.args.core (c.loop-number.number + 1)) (sym c.in_ok-push.ensures.items)
    (tables_more c.args.course.now.plans c.args.core c.loop-number.number c.loop-number.tables.items
    c.in_ok-build_with.field-0 (plan_view c.plan-plan.result.now) c.loop-number.invariant c.plan-plan.ensures.plan c.in_ok-build_with.ensures)

pub returns : goal.returns
returns c =
    let f = c.loop-number.invariant in record {
      count = omega (
        arith,
        f.count,
        c.plans-number-end.ensures.count,
        c.loop-number-test.false,
        c.loop-number.auto.number-end,
      );
      each = f.each;
    }

pub build_with-requires-clause-owners : goal.build_with-requires-clause-owners
build_with-requires-clause-owners c =
    let sets : List (List Bool) = c.index-owners-number.result in
    subst (λ (p : PlanView). AreRowOwners p sets) (sym c.plan-plan.ensures.plan)
    (c.requires.owners.each c.loop-number.number sets
    (slice_get_read c.args.owners.now _ c.loop-number.number sets refl
    (omega (arith, c.requires.owners.count, c.plans-number-end.ensures.count, c.loop-number-test.true))
    c.index-owners-number.is))

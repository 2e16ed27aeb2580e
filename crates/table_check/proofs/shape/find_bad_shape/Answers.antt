use Rattle.std.proofs.Common.{refl, ap, sym, ◌∙◌}
use Rattle.std.proofs.lemmas.Option.{slice_get_read}
use Rattle.table_form.specs.Tables.Rows.{bad_place}
use Rattle.table_check.specs.Shapes.{bad_in}
use Rattle.table_check.proofs.RawShapes.{good_all, good_more}
use Rattle.table_check.proofs.shape.find_bad_shape.Goals as goal

pub returns-in-Some-clause-some : goal.returns-in-Some-clause-some
returns-in-Some-clause-some c =
    let at = slice_get_read c.args.raw.now _ c.loop-core.core c.index-raw-core.result refl
    c.loop-core-test.true c.index-raw-core.is in (
      c.loop-core.core,
      c.in-Some.place,
      refl,
      record {
        bad = ap bad_in at ∙ ap (bad_place 0) (sym c.items.ensures) ∙ sym c.in-Some.ensures;
        lowest = c.loop-core.invariant;
      },
    )

pub loop-core-preserved : goal.loop-core-preserved
loop-core-preserved c =
    let at = slice_get_read c.args.raw.now _ c.loop-core.core c.index-raw-core.result refl
    c.loop-core-test.true c.index-raw-core.is in
    good_more c.args.raw.now c.loop-core.core c.index-raw-core.result at
    (ap (bad_place 0) (sym c.items.ensures) ∙ sym c.in_default.ensures) c.loop-core.invariant

pub returns-clause-none : goal.returns-clause-none
returns-clause-none c =
    good_all c.args.raw.now c.loop-core.core c.loop-core-test.false c.loop-core.invariant

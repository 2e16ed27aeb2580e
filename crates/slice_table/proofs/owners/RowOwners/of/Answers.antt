use Rattle.std.proofs.Common.{◌≡◌, ◌+◌, List, Some, length, refl, sym, ap, ◌∙◌, subst, arith}
use Rattle.std.specs.Prelude.{slice_get}
use Rattle.std.proofs.lemmas.Option.{slice_get_read}
use Rattle.table_form.specs.Tables.Rows.{Row}
use Rattle.slice_table.specs.Inside.Owners.{AreFirstSets}
use Rattle.slice_table.proofs.OwnersLemmas.{sets_none, sets_more}
use Rattle.slice_table.proofs.owners.RowOwners.of.Goals as goal

pub loop-number-init : goal.loop-number-init
loop-number-init c = subst (AreFirstSets c.args.plan.now.tables.rows 0) (sym c.in_ok-sets.ensures.items)
    (sets_none c.args.plan.now.tables.rows)

pub loop-number-preserved : goal.loop-number-preserved
loop-number-preserved c =
    let rows = c.args.plan.now.tables.rows in
    let n = c.loop-number.number in
    let at : slice_get rows n ≡ Some c.index-rows-number.result =
    ap (λ (list : List Row). slice_get list n) (sym c.items-rows.ensures.same)
    ∙ slice_get_read c.items-rows.result.now _ n c.index-rows-number.result refl c.loop-number-test.true c.index-rows-number.is in
    subst (AreFirstSets rows (n + 1)) (sym c.in_ok-push.ensures.items)
    (sets_more rows n c.loop-number.sets.items c.owners_in.result c.index-rows-number.result c.loop-number.invariant at
    c.owners_in.ensures)

pub returns : goal.returns
returns c =
    let f = c.loop-number.invariant in
    let same = ap length c.items-rows.ensures.same in record {
      count = omega (arith, f.count, same, c.loop-number-test.false, c.loop-number.auto.number-end);
      each = f.each;
    }

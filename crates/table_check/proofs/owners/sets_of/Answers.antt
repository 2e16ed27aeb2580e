use Rattle.std.proofs.Common.{List, [], ◌∷◌, length, length-append, ap, subst, sym, ◌∙◌, arith}
use Rattle.table_form.specs.declared.segment.Segment.{Segment}
use Rattle.table_form.specs.Tables.Rows.{cells_from}
use Rattle.table_check.specs.Inside.Owners.{HasOwners, HaveOwners}
use Rattle.table_check.specs.Shapes.{rows_of}
use Rattle.table_check.proofs.OwnersLemmas.{sets_more, sets_none}
use Rattle.table_check.proofs.owners.sets_of.Goals as goal

pub loop-row-init : goal.loop-row-init
loop-row-init c = record {
  size = ap length c.in_ok-sets.ensures.items;
  have = subst (HaveOwners (rows_of c.args.raw.now)) (sym c.in_ok-sets.ensures.items)
      (sets_none c.args.raw.now);
}

pub loop-row-preserved : goal.loop-row-preserved
loop-row-preserved c = record {
  size = ap length c.in_ok-push.ensures.items ∙ (let more = length-append c.loop-row.sets.items
      (c.owners_in.result ∷ []) in omega (arith, more, c.loop-row.invariant.size));
  have = subst (HaveOwners (rows_of c.args.raw.now)) (sym c.in_ok-push.ensures.items)
      (sets_more c.args.raw.now c.loop-row.row-index c.row-item.result c.loop-row.sets.items
      c.owners_in.result c.loop-row.invariant.size c.loop-row-test.true c.row-item.is
      (subst (λ (ss : List Segment). HasOwners (cells_from 0 ss) c.owners_in.result) c.items.ensures
      c.owners_in.ensures) c.loop-row.invariant.have);
}

pub returns : goal.returns
returns c = c.loop-row.invariant.have

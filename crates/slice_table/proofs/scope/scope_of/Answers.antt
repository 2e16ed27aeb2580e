use Rattle.std.proofs.Common.{ℕ, ◌<◌, ◌+◌, length, get_or, Vec, Global, List, [], Some, ap, subst, sym, ◌∙◌, arith}
use Rattle.std.proofs.lemmas.Bool.{false≢true}
use Rattle.std.proofs.lemmas.List.{get_or_default}
use Rattle.std.proofs.lemmas.Option.{slice_get-get_or, slice_get_within}
use Rattle.tab_core.specs.declared.TheConstants.{MAX_VCPUS}
use Rattle.table_form.specs.Tables.Rows.{Row}
use Rattle.table_form.specs.Tables.Views.{plan_view}
use Rattle.slice_table.specs.Inside.Sweeps.{AreOthers}
use Rattle.slice_table.proofs.ScopeLemmas.{cell_read, others_push, others_skip}
use Rattle.slice_table.proofs.scope.scope_of.Goals as goal
use Rattle.slice_table.proofs.scope.scope_of.Goals.{then-matters+in_ok-push, else-matters}

pub loop-number-preserved : goal.loop-number-preserved
loop-number-preserved c = elim c.if-matters.branch [
  | then-matters+in_ok-push w ↦
      subst (AreOthers (plan_view c.args.plan.now) c.args.core (c.loop-number.number + 1))
      (sym (ap (λ (v : Vec ℕ Global). v.items) w.others-is ∙ w.in_ok-push.ensures.items))
      (others_push (plan_view c.args.plan.now) c.args.core c.loop-number.number c.loop-number.others.items
      c.loop-number.invariant (c.matters.ensures.other w.if-matters.true))
  | else-matters w ↦
      subst (AreOthers (plan_view c.args.plan.now) c.args.core (c.loop-number.number + 1))
      (sym (ap (λ (v : Vec ℕ Global). v.items) w.others-is))
      (others_skip (plan_view c.args.plan.now) c.args.core c.loop-number.number c.loop-number.others.items
      c.loop-number.invariant (λ ne v x home stands.
      let few = c.items.ensures.few in
      let within = slice_get_within c.args.plan.now.tables.homes v (Some c.args.core) home in
      let small : v < MAX_VCPUS = omega arith in
      let lt : c.loop-number.number < length c.args.plan.now.tables.rows =
      omega (arith, c.requires.owners.count, c.rows-number-end.ensures, c.loop-number-test.true) in
      let rows : List Row = c.args.plan.now.tables.rows in
      let row : Row = get_or rows c.loop-number.number [] in
      let owns = (c.requires.owners.each c.loop-number.number row c.of_row.result.now
      (slice_get-get_or rows c.loop-number.number [] lt) c.of_row.ensures v small).1
      (x, cell_read rows c.loop-number.number x v row lt (get_or_default rows c.loop-number.number [] row lt) stands) in
      let isnt = c.matters.ensures.none w.if-matters.false ne v owns in
      false≢true (sym isnt ∙ (c.homes_of-home.ensures v small).1 home)))
]

pub returns-clause-scope : goal.returns-clause-scope
returns-clause-scope c = record {
  core = c.requires.core;
  home = c.homes_of-home.ensures;
  sharers = λ v small. (
    λ has. (let both = (c.uncapped-sharers.ensures v).0 has in ((c.homes_of-home.ensures v small).0 both.0, both.1)),
    λ shares. (c.uncapped-sharers.ensures v).1 ((c.homes_of-home.ensures v small).1 shares.0, shares.1),
  );
  few = c.items.ensures.few;
  others = subst (λ (n : ℕ). AreOthers (plan_view c.args.plan.now) c.args.core n c.loop-number.others.items)
      (omega (arith, c.requires.owners.count, c.rows-number-end.ensures, c.loop-number-test.false, c.loop-number.auto.number-end))
      c.loop-number.invariant;
}

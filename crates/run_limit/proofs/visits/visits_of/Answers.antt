use Rattle.std.proofs.Common.{◌≡◌, ℕ, ◌<◌, List, [], Option, Some, length, get_or, inl, inr, ap, subst, sym, ◌∙◌, arith}
use Rattle.std.specs.Prelude.{slice_get}
use Rattle.std.proofs.lemmas.Bool.{cases_lt}
use Rattle.std.proofs.lemmas.Option.{slice_get-get_or}
use Rattle.table_form.specs.Tables.Rows.{Row}
use Rattle.table_form.specs.Tables.Serves.{cell_of, owner_at}
use Rattle.table_form.proofs.SpotLemmas.{flat_some, owner_within}
use Rattle.run_limit.specs.Inside.Walks.{IsSeen}
use Rattle.run_limit.proofs.visits.visits_of.Goals as goal

pub loop-row-preserved : goal.loop-row-preserved
loop-row-preserved c = λ h d v x lt other home stands. elim (cases_lt d c.loop-row.row) [
  | inl before ↦ c.see_row.ensures.kept h d (c.loop-row.invariant h d v x before other home stands)
  | inr last ↦
      let rows : List Row = c.args.plan.now.tables.rows in
      let here : c.loop-row.row ≡ d = omega arith in
      let there : c.loop-row.row < length rows = omega (
        arith,
        c.loop-row-test.true,
        ap length c.items-row-end.ensures.same,
      ) in
      let row : Row = get_or rows c.loop-row.row [] in
      let at : slice_get rows c.loop-row.row ≡ Some row = slice_get-get_or rows c.loop-row.row [] there in
      let cell : slice_get row x ≡ Some (Some v) =
      flat_some (slice_get row x) v (ap (λ (r : Option Row). cell_of r x) (sym at)
      ∙ (ap (λ (e : ℕ). owner_at rows e x) here ∙ stands)) in
      subst (IsSeen c.see_row.new.visits h) here
      (c.see_row.ensures.seen h v x row at cell home (λ e. other (e ∙ here)))
]

pub returns : goal.returns
returns c = λ h d v x other home stands. c.loop-row.invariant h d v x
    (omega (
      arith,
      owner_within c.args.plan.now.tables.rows d x v stands,
      ap length c.items-row-end.ensures.same,
      c.loop-row-test.false,
    ))
    other home stands

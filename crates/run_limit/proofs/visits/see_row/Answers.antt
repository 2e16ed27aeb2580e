use Rattle.std.proofs.Common.{◌≡◌, ℕ, List, Option, Some, length, get_or, inl, inr, refl, ap, subst, sym, ◌∙◌, arith}
use Rattle.std.specs.Prelude.{slice_get}
use Rattle.std.proofs.lemmas.Bool.{cases_lt}
use Rattle.std.proofs.lemmas.Option.{same_Some, slice_get_read, slice_get_within}
use Rattle.table_form.specs.declared.segment.Segment.{Segment}
use Rattle.table_form.specs.Tables.Homes.{IsHome}
use Rattle.table_form.specs.Tables.Rows.{Row}
use Rattle.run_limit.proofs.AtHomeLemmas.{cell_owner}
use Rattle.run_limit.proofs.visits.see_row.Goals as goal

pub loop-at-init : goal.loop-at-init
loop-at-init c = record { kept = λ h d seen. seen; seen = λ k h v s lt. absurd (omega arith) }

pub loop-at-preserved : goal.loop-at-preserved
loop-at-preserved c = record {
  kept = λ h d old. c.see_owner.ensures.kept h d (c.loop-at.invariant.kept h d old);
  seen = λ k h v s lt there owner home other.
      let ss = c.segments-segments.result.now in
      let at = c.loop-at.at in
      let here = c.index-segments-at.result in
      elim (cases_lt k at) [
        | inl before ↦ c.see_owner.ensures.kept h c.args.row
            (c.loop-at.invariant.seen k h v s before there owner home other)
        | inr last ↦
            let is : k ≡ at = omega arith in
            let read : slice_get ss at ≡ Some here =
            slice_get_read ss (length ss) at here refl c.loop-at-test.true c.index-segments-at.is in
            let same : here ≡ s = same_Some {A = Segment} here s (sym read ∙ (ap (slice_get ss) (sym is) ∙ there)) in
            c.see_owner.ensures.seen h v
            (ap (λ (t : Segment). t.owner) (sym c.index-segments-at.is ∙ same) ∙ owner)
            (subst (λ (hs : List (Option ℕ)). IsHome hs h v) (sym c.items-homes.ensures.same) home) other
      ];
}

pub returns-clause-seen : goal.returns-clause-seen
returns-clause-seen c = λ h v x cells there cell home other.
    let ss = c.segments-segments.result.now in
    let rows : List Row = c.args.plan.now.tables.rows in
    let row = c.index-items-row.result in
    let read : slice_get rows c.args.row ≡ Some row =
    slice_get_read rows (length rows) c.args.row row refl c.requires
    (c.index-items-row.is ∙ ap (λ (list : List Row). get_or list c.args.row row) c.items.ensures.same) in
    let same : row ≡ cells = same_Some {A = Row} row cells (sym read ∙ there) in
    let found = cell_owner 0 ss x (Some v)
    (ap (λ (list : Row). slice_get list x) (c.segments-segments.ensures.cells ∙ same) ∙ cell) in
    c.loop-at.invariant.seen found.0 h v found.1
    (omega (arith, slice_get_within ss found.0 found.1 found.2, c.loop-at-test.false)) found.2 found.3 home other

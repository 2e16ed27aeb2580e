use Rattle.std.proofs.Common.{◌≡◌, ℕ, ◌<◌, Some, Option, inl, inr, sym, ◌∙◌, ap, arith, get_or}
use Rattle.std.specs.Prelude.{slice_get}
use Rattle.std.proofs.lemmas.Bool.{cases_lt, false≢true}
use Rattle.std.proofs.lemmas.List.{get_or_default}
use Rattle.std.proofs.lemmas.Option.{same_Some, slice_get_within}
use Rattle.tab_core.specs.declared.TheConstants.{ROUND}
use Rattle.table_form.specs.declared.segment.Segment.{Segment}
use Rattle.table_form.specs.Tables.Rows.{Row, cells_from}
use Rattle.table_form.proofs.RowLemmas.{length-cells_from}
use Rattle.table_form.proofs.Shapes.{ahead_ends, ahead_here, ahead_more, ahead_start}
use Rattle.slice_table.proofs.OwnersLemmas.{ends_above, ends_apart}
use Rattle.slice_table.proofs.owners.owners_in.Goals as goal

pub loop-at-init : goal.loop-at-init
loop-at-init c = record {
  begin = 0;
  low = λ k d from lt. ends_above 0 ROUND c.segments-segments.result.now k d c.segments-segments.ensures.rises lt;
  ahead = λ x low. ahead_start c.segments-segments.result.now x c.segments-segments.ensures.rises;
  size = c.nobody-owners.ensures.size;
  all = λ x v less small at. absurd (omega arith);
  found = λ v small on. absurd (false≢true (sym (c.nobody-owners.ensures.none v) ∙ on));
}

pub loop-at-preserved : goal.loop-at-preserved
loop-at-preserved c =
    let ss = c.segments-segments.result.now in
    let i = c.loop-at.at in
    let s = c.index-segments-at.result in
    let was = c.loop-at.invariant in
    let lt = c.loop-at-test.true in
    let end : s.end ≡ (get_or ss i s).end = ap (λ (u : Segment). u.end) c.index-segments-at.is in
    let low : was.begin < s.end = (let least = was.low i s (omega arith) lt in omega arith) in
    let put = c.put_owner.ensures in
    let is_owner : c.vcpu.result ≡ s.owner =
    c.vcpu.ensures ∙ ap (λ (u : Segment). u.owner) (sym c.index-segments-at.is) in
    record {
      begin = s.end;
      low = λ k d from less.
          (let rise : (get_or ss i d).end < (get_or ss k d).end =
          ends_apart 0 ROUND ss i k d c.segments-segments.ensures.rises (omega arith) less in
          let same = ap (λ (u : Segment). u.end) (get_or_default ss i s d lt) in omega arith);
      ahead = λ x le. ahead_more ss x i s lt c.index-segments-at.is (was.ahead x (omega arith)) le;
      size = put.size;
      all = λ x v less small at. (put.members v small).1 (elim (cases_lt x was.begin) [
        | inl before ↦ inl (was.all x v before small at)
        | inr later ↦ inr (is_owner
            ∙ same_Some {A = Option ℕ} s.owner (Some v)
            (sym (ahead_here ss x i s lt c.index-segments-at.is (was.ahead x later) less) ∙ at))
      ]);
      found = λ v small on. elim ((put.members v small).0 on) [
        | inl old ↦ was.found v small old
        | inr new ↦ (
          was.begin,
          ahead_here ss was.begin i s lt c.index-segments-at.is (was.ahead was.begin (omega arith)) low
              ∙ ap Some (sym is_owner ∙ new),
        )
      ];
    }

pub returns : goal.returns
returns c = λ v small.
    let ss = c.segments-segments.result.now in
    let was = c.loop-at.invariant in
    let row = c.segments-segments.ensures.cells in (
      (λ on. let f = was.found v small on in (f.0, ap (λ (cells : Row). slice_get cells f.0) (sym row) ∙ f.1)),
      (λ at.
          let x = at.0 in
          let cell : slice_get (cells_from 0 ss) x ≡ Some (Some v) =
          ap (λ (cells : Row). slice_get cells x) row ∙ at.1 in
          elim (cases_lt x was.begin) [
            | inl before ↦ was.all x v before small cell
            | inr later ↦ absurd (ahead_ends ss x c.loop-at.at (omega arith) (was.ahead x later)
                (let within = slice_get_within (cells_from 0 ss) x (Some v) cell in
                let size = length-cells_from 0 ss ROUND c.segments-segments.ensures.rises in omega arith))
          ]),
    )

use Rattle.std.proofs.Common.{◌≡◌, ◌+◌, ◌<◌, ◌≤◌, length, map, drop, Some, ap, subst, sym, ◌∙◌, arith}
use Rattle.std.specs.Prelude.{slice_get}
use Rattle.std.proofs.lemmas.Bool.{false≢true}
use Rattle.std.proofs.lemmas.Option.{slice_get-get_or}
use Rattle.table_form.specs.Tables.Segments.{BeginsOther, segment_view}
use Rattle.table_form.proofs.JoiningLemmas.{all_joined, one_kept, one_passed, some_segment}
use Rattle.table_form.proofs.segments.join_neighbours.Goals as goal
use Rattle.table_form.proofs.segments.join_neighbours.Goals.{then-ends_maximal, else-ends_maximal}

pub loop-at-preserved : goal.loop-at-preserved
loop-at-preserved c =
    let now = c.loop-at.segments.items in
    let at = c.loop-at.at in
    let lt : at < length now = omega (
      arith,
      c.loop-at-test.true,
      c.len-at-end.ensures,
      c.args.segments.now.ok.0,
      c.loop-at.invariant.size,
    ) in
    let here = c.deref.ensures.value in
    elim c.if-ends_maximal.branch [
      | then-ends_maximal w ↦
          let s = w.index.result.now in
          let is : slice_get now at ≡ Some s = slice_get-get_or now at s lt ∙ ap Some (sym w.index.ensures) in
          let other = subst (λ ss. BeginsOther s.owner (map segment_view (drop (at + 1) ss))) here
          ((c.ends_maximal.ensures s (ap (λ ss. slice_get ss at) here ∙ is)).0 w.if-ends_maximal.true) in
          rw (w.segments-is, w.kept-is)
          (one_kept c.args.segments.now.items now c.loop-at.kept at s is other c.loop-at.invariant)
      | else-ends_maximal w ↦
          let some = some_segment now at lt in
          let s = some.0 in
          rw (w.segments-is, w.kept-is)
          (one_passed c.args.segments.now.items now c.loop-at.kept at s some.1
          (λ other. false≢true (sym w.if-ends_maximal.false
          ∙ (c.ends_maximal.ensures s (ap (λ ss. slice_get ss at) here ∙ some.1)).1
          (subst (λ ss. BeginsOther s.owner (map segment_view (drop (at + 1) ss))) (sym here) other)))
          c.loop-at.invariant)
    ]

pub returns : goal.returns
returns c =
    let past : length c.loop-at.segments.items ≤ c.loop-at.at = omega (
      arith,
      c.loop-at-test.false,
      c.len-at-end.ensures,
      c.args.segments.now.ok.0,
      c.loop-at.invariant.size,
    ) in
    ap (map segment_view) c.truncate.ensures.items
    ∙ all_joined c.args.segments.now.items c.loop-at.segments.items c.loop-at.kept c.loop-at.at past
    c.loop-at.invariant

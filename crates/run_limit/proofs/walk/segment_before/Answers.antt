use Rattle.std.proofs.Common.{◌-◌, List, map, get_or, inl, inr, arith}
use Rattle.std.proofs.lemmas.Bool.{cases_lt}
use Rattle.std.proofs.lemmas.List.{length-map}
use Rattle.std.proofs.lemmas.Option.{slice_get-get_or}
use Rattle.tab_core.specs.declared.TheConstants.{ROUND}
use Rattle.table_form.specs.declared.segment.Segment.{Segment}
use Rattle.table_form.specs.Tables.Segments.{segment_view}
use Rattle.run_limit.specs.Inside.Walks.{passed}
use Rattle.run_limit.proofs.LaneLemmas.{viewed}
use Rattle.run_limit.proofs.PassedLemmas.{passed_ends, passed_inside, passed_over}
use Rattle.run_limit.proofs.walk.segment_before.Goals as goal

pub returns-then-own-at : goal.returns-then-own-at
returns-then-own-at c =
    let ss : List Segment = c.args.own.now in
    let at = c.loop-at.at in
    let s : Segment = get_or ss at c.index-own-at.result in
    let view = viewed ss at s (slice_get-get_or ss at c.index-own-at.result c.loop-at-test.true) in
    let far = c.if-own-at.true in
    elim (cases_lt at (passed (map segment_view ss) (c.args.place - 1))) [
      | inl over ↦ absurd
          (let le = passed_ends (map segment_view ss) at (c.args.place - 1) (segment_view s) view over in omega arith)
      | inr le ↦ (let low = c.loop-at.invariant in omega arith)
    ]

pub loop-at-preserved : goal.loop-at-preserved
loop-at-preserved c =
    let ss : List Segment = c.args.own.now in
    let at = c.loop-at.at in
    let s : Segment = get_or ss at c.index-own-at.result in
    let view = viewed ss at s (slice_get-get_or ss at c.index-own-at.result c.loop-at-test.true) in
    let near = c.if-own-at.false in
    let over = passed_over 0 (map segment_view ss) ROUND at (c.args.place - 1) (segment_view s) c.requires.whole view
    (omega arith) in
    omega arith

pub returns : goal.returns
returns c =
    let ss : List Segment = c.args.own.now in
    let inside = passed_inside 0 (map segment_view ss) ROUND (c.args.place - 1) c.requires.whole (omega arith)
    (omega arith) in
    let size = length-map ss segment_view in
    let low = c.loop-at.invariant in
    absurd (omega arith)

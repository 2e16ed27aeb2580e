use Rattle.std.proofs.Common.{◌≡◌, ◌+◌, ◌-◌, ◌<◌, ℕ, List, length, map, get_or, Some, refl, ap, subst, sym, ◌∙◌, arith, rules}
use Rattle.std.specs.Prelude.{slice_get}
use Rattle.std.proofs.lemmas.List.{length-map}
use Rattle.std.proofs.lemmas.Option.{slice_get-get_or}
use Rattle.tab_core.specs.declared.TheConstants.{ROUND}
use Rattle.table_form.specs.declared.segment.Segment.{Segment}
use Rattle.table_form.specs.Tables.Rows.{Row}
use Rattle.table_form.specs.Tables.Segments.{AreMaximal, SegmentView, segment_view, segments_from}
use Rattle.table_form.specs.Tables.Views.{plan_view}
use Rattle.run_limit.specs.Inside.Walks.{passed}
use Rattle.run_limit.proofs.AtHomeLemmas.{segments_few}
use Rattle.run_limit.proofs.LaneLemmas.{AreOfRow, lane_later, next_after, of_row, view_at, view_count}
use Rattle.run_limit.proofs.PassedLemmas.{none_passed, passed_end, passed_inside, passed_last, passed_more, passed_same, row_maximal}
use Rattle.run_limit.proofs.WalkLemmas.{IsCounted, IsOwnRow, alike_same, counted_change, counted_end, counted_first, counted_run, counted_tick, counted_whole, lanes_show, same_alike, shown_alike}
use Rattle.run_limit.proofs.walk.walk.Goals as goal
use Rattle.run_limit.proofs.walk.walk.Goals.{then-own-at+then-not-are_same, else-own-at, else-own-at-via-then-own-at+else-not-are_same, else-own-at-via-else-own-at}

pub walking-init : goal.walking-init
walking-init c =
    let plan = plan_view c.args.plan.now in
    let row : Row = c.index-items-row.result in
    let facts = c.segments-own.ensures in
    let ts : List SegmentView = map segment_view c.segments-own.result.now in
    let lanes = c.lanes_of-lanes.ensures in
    let next = c.next_end-place in
    let none : passed ts 0 ≡ 0 = ap (λ (us : List SegmentView). passed us 0) facts.maximal ∙ none_passed row in
    let one : 1 ≡ 1 + passed ts 0 + 0 = omega arith in
    record {
      from = 0;
      before = next.ensures.behind 0 (omega arith) (λ at lane listed. (lanes.lanes at lane listed).after);
      in_round = next.ensures.within;
      few = lanes.few;
      all = lanes.all;
      lanes = lanes.lanes;
      ends = next.ensures.least;
      at_low = omega arith;
      more_few = omega arith;
      counted = subst (IsCounted plan c.args.row 1) one (counted_first plan c.args.row);
    }

-- the own segments are maximal
maximal : (rows : List Row) (d : ℕ) (row : Row) (ss : List Segment) → AreOfRow rows d row ss
    → AreMaximal 0 (map segment_view ss) ROUND
maximal rows d row ss of = subst (λ (ts : List SegmentView). AreMaximal 0 ts ROUND) (sym of.views)
    (row_maximal row of.size)

pub segment_before-at-requires-clause-whole : goal.segment_before-at-requires-clause-whole
segment_before-at-requires-clause-whole c =
    let facts = c.segments-own.ensures in
    maximal c.args.plan.now.tables.rows c.args.row c.index-items-row.result c.segments-own.result.now
    (of_row c.args.plan.now.tables.rows c.items.result.now c.args.row c.index-items-row.result c.segments-own.result.now
    c.requires.there c.index-items-row.is c.items.ensures.same facts.cells facts.rises facts.maximal)

pub segment_before-at-requires-clause-from : goal.segment_before-at-requires-clause-from
segment_before-at-requires-clause-from c =
    let was = c.walking.invariant in
    let low = was.at_low in
    let before = was.before in
    let more = passed_more (map segment_view c.segments-own.result.now) was.from (c.walking.place - 1) (omega arith) in
    omega arith

pub move_on-requires-clause-lanes : goal.move_on-requires-clause-lanes
move_on-requires-clause-lanes c = λ at lane listed.
    let was = c.walking.invariant in
    let before = was.before in
    let end = was.ends at lane listed in
    lane_later (plan_view c.args.plan.now) c.args.row was.from (c.walking.place - 1) lane (was.lanes at lane listed)
    (omega arith) (omega arith)

-- the segment of a tick is one of them
inside : (ss : List Segment) (x at : ℕ) → AreMaximal 0 (map segment_view ss) ROUND
    → at ≡ passed (map segment_view ss) x → x < ROUND → at < length ss
inside ss x at m is lt =
    (let within = passed_inside 0 (map segment_view ss) ROUND x m (omega arith) lt in
    let size = length-map ss segment_view in omega arith)

pub offset_bounds-own-at : goal.offset_bounds-own-at
offset_bounds-own-at c =
    let lt = inside c.segments-own.result.now (c.walking.place - 1) c.segment_before-at.result
    (maximal c.args.plan.now.tables.rows c.args.row c.index-items-row.result c.segments-own.result.now
    (of_row c.args.plan.now.tables.rows c.items.result.now c.args.row c.index-items-row.result c.segments-own.result.now
    c.requires.there c.index-items-row.is c.items.ensures.same c.segments-own.ensures.cells c.segments-own.ensures.rises
    c.segments-own.ensures.maximal))
    c.segment_before-at.ensures (omega arith) in
    search rules

pub bounds-own-at : goal.bounds-own-at
bounds-own-at c = inside c.segments-own.result.now (c.walking.place - 1) c.segment_before-at.result
    (maximal c.args.plan.now.tables.rows c.args.row c.index-items-row.result c.segments-own.result.now
    (of_row c.args.plan.now.tables.rows c.items.result.now c.args.row c.index-items-row.result c.segments-own.result.now
    c.requires.there c.index-items-row.is c.items.ensures.same c.segments-own.ensures.cells c.segments-own.ensures.rises
    c.segments-own.ensures.maximal))
    c.segment_before-at.ensures (omega arith)

pub bounds-own-at-in-walking : goal.bounds-own-at-in-walking
bounds-own-at-in-walking c = λ s. inside c.segments-own.result.now (c.walking.place - 1) c.segment_before-at.result
    (maximal c.args.plan.now.tables.rows c.args.row c.index-items-row.result c.segments-own.result.now
    (of_row c.args.plan.now.tables.rows c.items.result.now c.args.row c.index-items-row.result c.segments-own.result.now
    c.requires.there c.index-items-row.is c.items.ensures.same c.segments-own.ensures.cells c.segments-own.ensures.rises
    c.segments-own.ensures.maximal))
    c.segment_before-at.ensures (omega arith)

pub walking-smaller : goal.walking-smaller
walking-smaller c =
    let next = c.next_end-place-in-walking in
    let later : c.walking.place < next.result = next.ensures.behind c.walking.place c.walking-test.true
    (λ at lane listed. (c.move_on.ensures.lanes at lane listed).after) in
    let within = next.ensures.within in
    omega arith

pub walking-preserved : goal.walking-preserved
walking-preserved c =
    let plan = plan_view c.args.plan.now in
    let core = c.args.row in
    let row : Row = c.index-items-row.result in
    let ss : List Segment = c.segments-own.result.now in
    let ts : List SegmentView = map segment_view ss in
    let facts = c.segments-own.ensures in
    let of : AreOfRow plan.rows core row ss = of_row plan.rows c.items.result.now core row ss c.requires.there
    c.index-items-row.is c.items.ensures.same facts.cells facts.rises facts.maximal in
    let own : IsOwnRow plan core row = record { is = of.is; size = of.size } in
    let whole = maximal plan.rows core row ss of in
    let was = c.walking.invariant in
    let place = c.walking.place in
    let more = c.walking.more in
    let before = was.before in
    let in_round : place < ROUND = c.walking-test.true in
    let step = c.move_on.ensures in
    let lanes = c.move_on.new.lanes in
    let next = c.next_end-place-in-walking in
    let later : place < next.result = next.ensures.behind place in_round
    (λ at lane listed. (step.lanes at lane listed).after) in
    let all = step.all was.all in
    let shown = lanes_show plan core place next.result place lanes step.lanes next.ensures.least (omega arith) later in
    let at = c.segment_before-at.result in
    let at_is = c.segment_before-at.ensures in
    let passed_at = passed_more ts (place - 1) place (omega arith) in
    let so_far : IsCounted plan core place (1 + passed (segments_from 0 row) (place - 1) + more) =
    subst (λ (x : ℕ). IsCounted plan core x (1 + passed (segments_from 0 row) (place - 1) + more))
    (let e : place - 1 + 1 ≡ place = omega arith in e)
    (counted_run plan core was.from (place - 1 - was.from) (place - 1) more row own (omega arith) (omega arith)
    (λ x low le. shown_alike plan core (x - 1) x c.walking.lanes was.all
    (lanes_show plan core was.from place (x - 1) c.walking.lanes was.lanes was.ends (omega arith) (omega arith))
    (lanes_show plan core was.from place x c.walking.lanes was.lanes was.ends (omega arith) (omega arith)))
    (subst (λ (us : List SegmentView). IsCounted plan core (was.from + 1) (1 + passed us was.from + more)) of.views
    was.counted)) in
    let us : List SegmentView = segments_from 0 row in
    let there : at < length ss = inside ss (place - 1) at whole at_is (omega arith) in
    let s : Segment = get_or ss at c.index-own-at.result in
    let listed : slice_get ss at ≡ Some s = slice_get-get_or ss at c.index-own-at.result there in
    let is : at ≡ passed us (place - 1) = at_is ∙ ap (λ (vs : List SegmentView). passed vs (place - 1)) of.views in
    let view = view_at plan.rows core at row ss s of listed in
    let far : place - 1 < s.end = next_after plan.rows core at (place - 1) row ss s of listed is in
    record {
      from = place;
      before = later;
      in_round = next.ensures.within;
      few = omega (arith, step.count, was.few);
      all = all;
      lanes = step.lanes;
      ends = next.ensures.least;
      at_low = omega arith;
      more_few = elim c.if-own-at.branch [
        | then-own-at+then-not-are_same w ↦ omega (arith, w.more-is, was.more_few)
        | else-own-at w ↦ omega (arith, w.more-is, was.more_few)
      ];
      counted = subst (λ (vs : List SegmentView). IsCounted plan core (place + 1)
          (1 + passed vs place + c.if-own-at.more)) (sym of.views)
          (elim c.if-own-at.branch [
            | then-own-at+then-not-are_same w ↦
                let other = w.if-own-at.true in
                subst (λ (n : ℕ). IsCounted plan core (place + 1) (1 + passed us place + n)) (sym w.more-is)
                (counted_change plan core place more row own in_round
                (passed_same us at (place - 1) place (segment_view s) view (sym is) (omega arith) (omega arith) ∙ is)
                (λ same. w.are_same.ensures.no w.if-not-are_same.true
                (alike_same plan core (place - 1) place lanes all step.before shown same)) so_far)
            | else-own-at w ↦
                subst (λ (n : ℕ). IsCounted plan core (place + 1) (1 + passed us place + n)) (sym w.more-is)
                (elim w.else-own-at.branch [
                  | else-own-at-via-then-own-at+else-not-are_same w' ↦
                      counted_tick plan core place more row own (omega arith) in_round
                      (same_alike plan core (place - 1) place lanes all step.before shown
                      (w'.are_same.ensures.yes w'.if-not-are_same.false)) so_far
                  | else-own-at-via-else-own-at w' ↦
                      counted_end plan core place more row own (omega arith) in_round
                      (subst (λ (x : ℕ). passed us x ≡ passed us (place - 1) + 1) w'.if-own-at.false
                      (let e : passed us s.end ≡ passed us (place - 1) + 1 = omega (
                        arith,
                        passed_end 0 us ROUND at (segment_view s) (row_maximal row of.size) view,
                      ) in e)) so_far
                ])
          ]);
    }

pub overflow_cast-result : goal.overflow_cast-result
overflow_cast-result c =
    let ss : List Segment = c.segments-own.result.now in
    let facts = c.segments-own.ensures in
    let few = segments_few 0 (map segment_view ss) ROUND
    (maximal c.args.plan.now.tables.rows c.args.row c.index-items-row.result ss
    (of_row c.args.plan.now.tables.rows c.items.result.now c.args.row c.index-items-row.result ss
    c.requires.there c.index-items-row.is c.items.ensures.same facts.cells facts.rises facts.maximal)) in
    let size = length-map ss segment_view in
    omega arith

pub overflow_add-result : goal.overflow_add-result
overflow_add-result c =
    let ss : List Segment = c.segments-own.result.now in
    let facts = c.segments-own.ensures in
    let few = segments_few 0 (map segment_view ss) ROUND
    (maximal c.args.plan.now.tables.rows c.args.row c.index-items-row.result ss
    (of_row c.args.plan.now.tables.rows c.items.result.now c.args.row c.index-items-row.result ss
    c.requires.there c.index-items-row.is c.items.ensures.same facts.cells facts.rises facts.maximal)) in
    let size = length-map ss segment_view in
    let was = c.walking.invariant in
    let a = was.more_few in
    let b = was.before in
    let d = was.in_round in
    omega arith

pub returns : goal.returns
returns c =
    let plan = plan_view c.args.plan.now in
    let core = c.args.row in
    let row : Row = c.index-items-row.result in
    let ss : List Segment = c.segments-own.result.now in
    let ts : List SegmentView = map segment_view ss in
    let facts = c.segments-own.ensures in
    let of : AreOfRow plan.rows core row ss = of_row plan.rows c.items.result.now core row ss c.requires.there
    c.index-items-row.is c.items.ensures.same facts.cells facts.rises facts.maximal in
    let own : IsOwnRow plan core row = record { is = of.is; size = of.size } in
    let was = c.walking.invariant in
    let place = c.walking.place in
    let more = c.walking.more in
    let before = was.before in
    let in_round = was.in_round in
    let whole : place ≡ ROUND = omega arith in
    let last : ℕ = ROUND - 1 in
    let run = counted_run plan core was.from (last - was.from) last more row own (omega arith) (omega arith)
    (λ x low le. shown_alike plan core (x - 1) x c.walking.lanes was.all
    (lanes_show plan core was.from place (x - 1) c.walking.lanes was.lanes was.ends (omega arith) (omega arith))
    (lanes_show plan core was.from place x c.walking.lanes was.lanes was.ends (omega arith) (omega arith)))
    (subst (λ (us : List SegmentView). IsCounted plan core (was.from + 1) (1 + passed us was.from + more)) of.views
    was.counted) in
    let count = passed_last 0 (segments_from 0 row) ROUND last (row_maximal row of.size) (omega arith) refl in
    let size = view_count plan.rows core row ss of in
    counted_whole plan core (length ss + more)
    (subst (IsCounted plan core ROUND)
    (let e : 1 + passed (segments_from 0 row) last + more ≡ length ss + more = omega arith in e) run)

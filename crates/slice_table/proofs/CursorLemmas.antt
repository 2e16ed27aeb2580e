-- A sweep's place in a row: the segments before it are past.
use Rattle.std.proofs.Common.{◌≡◌, ℕ, ◌+◌, ◌<◌, ◌≤◌, List, length, map, get_or, Some, inl, inr, ap, sym, ◌∙◌, arith}
use Rattle.std.specs.Prelude.{slice_get}
use Rattle.std.specs.Option.{option_map}
use Rattle.std.proofs.lemmas.Bool.{cases_lt}
use Rattle.std.proofs.lemmas.List.{get_or_default, length-map}
use Rattle.std.proofs.lemmas.Option.{slice_get-map, slice_get-get_or, same_Some}
use Rattle.tab_core.specs.declared.TheConstants.{ROUND}
use Rattle.table_form.specs.declared.segment.Segment.{Segment}
use Rattle.table_form.specs.Tables.Rows.{Row, RisesTo, cells_from}
use Rattle.table_form.specs.Tables.Segments.{SegmentView, segment_view, segments_from}
use Rattle.table_form.proofs.Search.{ends_rise, owner_from, some_segment}
use Rattle.slice_table.specs.Inside.Sweeps.{IsPast}

-- before the first segment nothing has to be past
pub past_start : (row : Row) (place : ℕ) → IsPast row place 0
past_start row place = record { within = omega arith; passed = λ j s lt at. absurd (omega arith) }

-- what is past stays so
pub past_later : (row : Row) (place later number : ℕ) → place ≤ later → IsPast row place number
    → IsPast row later number
past_later row place later number le past = record {
  within = past.within;
  passed = λ j s lt at. (let was = past.passed j s lt at in omega arith);
}

-- a segment as the row's cells show it
view_read : (row : Row) (ss : List Segment) (j : ℕ) (d : Segment) → map segment_view ss ≡ segments_from 0 row
    → j < length ss → slice_get (segments_from 0 row) j ≡ Some (segment_view (get_or ss j d))
view_read row ss j d are lt =
    ap (λ (ts : List SegmentView). slice_get ts j) (sym are) ∙ slice_get-map segment_view ss j
    ∙ ap (option_map segment_view) (slice_get-get_or ss j d lt)

-- there are as many as the cells show
count_read : (row : Row) (ss : List Segment) → map segment_view ss ≡ segments_from 0 row
    → length (segments_from 0 row) ≡ length ss
count_read row ss are = ap length (sym are) ∙ length-map ss segment_view

-- the segments before the number end at or before the place
pub ends_past : (row : Row) (ss : List Segment) (place number : ℕ) → map segment_view ss ≡ segments_from 0 row
    → IsPast row place number → (j : ℕ) (d : Segment) → j < number → (get_or ss j d).end ≤ place
ends_past row ss place number are past j d lt =
    let count = count_read row ss are in
    past.passed j (segment_view (get_or ss j d)) lt
    (view_read row ss j d are (omega (arith, past.within)))

-- a place of the round is in one of the segments from the number on
pub some_from : (row : Row) (ss : List Segment) (place number : ℕ) → map segment_view ss ≡ segments_from 0 row
    → RisesTo 0 ss ROUND → place < ROUND → IsPast row place number → number < length ss
some_from row ss place number are rises in_round past = elim (cases_lt number (length ss)) [
  | inl less ↦ less
  | inr beyond ↦ some_segment ss place number rises in_round (record {
    at_most = (let count = count_read row ss are in omega (arith, past.within));
    passed = ends_past row ss place number are past;
    ahead = λ j d low lt. absurd (omega arith);
  })
]

-- one segment more is past
pub past_more : (row : Row) (ss : List Segment) (place number : ℕ) (s : Segment)
    → map segment_view ss ≡ segments_from 0 row → number < length ss → s ≡ get_or ss number s
    → s.end ≤ place → IsPast row place number → IsPast row place (number + 1)
past_more row ss place number s are lt is ended past = record {
  within = (let count = count_read row ss are in omega arith);
  passed = λ j t less at. elim (cases_lt j number) [
    | inl before ↦ past.passed j t before at
    | inr past_it ↦
        let here : j ≡ number = omega arith in
        let same : t ≡ segment_view (get_or ss number s) =
        same_Some {A = SegmentView} t (segment_view (get_or ss number s))
        (sym at ∙ (ap (slice_get (segments_from 0 row)) here ∙ view_read row ss number s are lt)) in
        let end : t.end ≡ s.end =
        ap (λ (u : SegmentView). u.end) same ∙ ap (λ (u : Segment). u.end) (sym is) in
        omega arith
  ];
}

-- the segment at the number ends after the place, so it has the ticks from there to its end
pub owner_here : (row : Row) (ss : List Segment) (place number x : ℕ) (s : Segment)
    → map segment_view ss ≡ segments_from 0 row → cells_from 0 ss ≡ row → RisesTo 0 ss ROUND
    → number < length ss → s ≡ get_or ss number s → place < s.end → IsPast row place number
    → place ≤ x → x < s.end → slice_get row x ≡ Some s.owner
owner_here row ss place number x s are cells rises lt is after past low less =
    ap (λ (cs : Row). slice_get cs x) (sym cells)
    ∙ owner_from ss place number x s rises lt is (record {
      at_most = omega arith;
      passed = ends_past row ss place number are past;
      ahead = λ j d from below.
          (let rise : (get_or ss number d).end ≤ (get_or ss j d).end = ends_rise 0 ss ROUND rises number j d
          from below in
          let end : s.end ≡ (get_or ss number d).end =
          ap (λ (u : Segment). u.end) (is ∙ get_or_default ss number s d lt) in
          omega arith);
    }) low less

-- A row where nobody is ever away: its segments are the core's spans.
use Rattle.std.proofs.Common.{◌≡◌, ◌⊎◌, ℕ, zero, suc, ◌+◌, ◌-◌, ◌<◌, ◌≤◌, Bool, List, [], ◌∷◌, ◌++◌, length, length-append, map, replicate, get_or, All, Option, Some, inl, inr, refl, ap, subst, sym, ◌∙◌, arith, zero-add}
use Rattle.std.specs.Prelude.{slice_get}
use Rattle.std.proofs.lemmas.Bool.{false≢true}
use Rattle.std.proofs.lemmas.List.{get_or_default}
use Rattle.std.proofs.lemmas.List.Elements.{All-head, All-tail}
use Rattle.std.proofs.lemmas.Option.{same_Some}
use Rattle.tab_core.proofs.Lists.{get_or-replicate_same, push_split}
use Rattle.tab_core.specs.declared.TheConstants.{ROUND}
use Rattle.table_form.specs.declared.segment.Segment.{Segment}
use Rattle.table_form.specs.Tables.Plans.{PlanView}
use Rattle.table_form.specs.Tables.Rows.{Row, RisesTo, cells_from}
use Rattle.table_form.specs.Tables.Segments.{AreMaximal, SegmentView, segment_view, segments_from}
use Rattle.table_form.specs.Tables.Serves.{owner_at}
use Rattle.table_form.specs.Tables.Spots.{IsAway, IsSpanEnd, SameSpot}
use Rattle.table_form.proofs.RowLemmas.{cell_here, cells-cons, length-cells_from, rises_none, rises_parts}
use Rattle.table_form.proofs.SegmentLemmas.{maximal_end, maximal_of_row}
use Rattle.table_form.proofs.SpotLemmas.{owner_read, owner_within}
use Rattle.slice_table.specs.declared.span_list.SpanEntry.{SpanEntry}
use Rattle.slice_table.specs.declared.full_span.FullSpan.{FullSpan}
use Rattle.slice_table.specs.declared.own_spans.TheConstants.{NONE}
use Rattle.slice_table.specs.declared.scope.Scope.{Scope}
use Rattle.slice_table.specs.Inside.OwnSpans.{AreKnown, AreOwnSpans, IsOwnSpan}
use Rattle.slice_table.specs.Inside.Sweeps.{IsScope}
use Rattle.slice_table.specs.Slices.{AreSpansOf, IsShown}

-- where no other row matters nobody is away
nobody_away : (plan : PlanView) (scope : Scope) (x v : ℕ) → IsScope plan scope → length scope.others.items ≡ 0
    → IsAway plan scope.core x v → ⊥
nobody_away plan scope x v is alone away =
    (let listed = is.others.listed away.other v x (owner_within plan.rows away.other x v away.stands)
    away.elsewhere away.home away.stands in omega (arith, listed.1))

-- there places with one owner are alike
alike_owners : (plan : PlanView) (scope : Scope) (x y : ℕ) → IsScope plan scope → length scope.others.items ≡ 0
    → owner_at plan.rows scope.core x ≡ owner_at plan.rows scope.core y → SameSpot plan scope.core x y
alike_owners plan scope x y is alone same = record {
  owner = same;
  away = λ v away. absurd (nobody_away plan scope x v is alone away);
  back = λ v away. absurd (nobody_away plan scope y v is alone away);
}

-- the span shows each place that has its owner
own_shown : (plan : PlanView) (scope : Scope) (x : ℕ) (s : Segment) (span : FullSpan) → IsScope plan scope
    → length scope.others.items ≡ 0 → IsOwnSpan scope.sharers s span
    → owner_at plan.rows scope.core x ≡ s.owner → IsShown plan scope.core x span
own_shown plan scope x s span is alone own owner = record {
  owner = own.shown.owner_is ∙ sym owner;
  away = λ v small. (
    λ has. absurd (false≢true (sym (own.shown.away v) ∙ has)),
    λ away. absurd (nobody_away plan scope x v is alone away),
  );
  sharers = λ v small. (
    λ has.
        (let is_one = (own.shown.sharers v).0 has in
        let shares = (is.sharers v small).0 is_one.0 in
        record {
          home = shares.0;
          uncapped = shares.1;
          no_owner = λ owns. is_one.1 (sym owner ∙ owns);
          here = λ d other stands. nobody_away plan scope x v is alone (record {
            home = shares.0;
            other = d;
            elsewhere = other;
            stands = stands;
          });
        }),
    λ sharer. (own.shown.sharers v).1 (
      (is.sharers v small).1 (sharer.home, sharer.uncapped),
      λ owns. sharer.no_owner (owner ∙ owns),
    ),
  );
}

-- after the cells of a run the others follow
cells_after : (n t u : ℕ) (o : Option ℕ) (rest : Row) → t ≡ n + u
    → slice_get (replicate n o ++ rest) t ≡ slice_get rest u
cells_after zero t u o rest e = ap (slice_get rest) (e ∙ zero-add u)
cells_after (suc n) zero u o rest e = absurd (omega arith)
cells_after (suc n) (suc t) u o rest e = cells_after n t u o rest (omega arith)

-- from the start on the row has the cells of the segments
abbrev pub IsRest : Row → ℕ → List Segment → Type 0
IsRest row start ss = (x : ℕ) → start ≤ x → slice_get row x ≡ slice_get (cells_from start ss) (x - start)

-- the first of the segments has the row up to its end
first_owner : (row : Row) (start : ℕ) (s : Segment) (ss : List Segment) (x : ℕ) → IsRest row start (s ∷ ss)
    → start ≤ x → x < s.end → slice_get row x ≡ Some s.owner
first_owner row start s ss x rest low lt =
    rest x low
    ∙ (ap (λ (cells : Row). slice_get cells (x - start)) (cells-cons start s ss)
    ∙ cell_here (s.end - start) (x - start) s.owner (cells_from s.end ss) (omega arith))

-- the other segments have the row after the first one's end
rest_next : (row : Row) (start : ℕ) (s : Segment) (ss : List Segment) → IsRest row start (s ∷ ss)
    → start < s.end → IsRest row s.end ss
rest_next row start s ss rest less x low =
    rest x (omega arith)
    ∙ (ap (λ (cells : Row). slice_get cells (x - start)) (cells-cons start s ss)
    ∙ cells_after (s.end - start) (x - start) (x - s.end) s.owner (cells_from s.end ss) (omega arith))

-- what is known of a row whose segments from a place on are the core's spans
pub record Holds (plan : PlanView) (scope : Scope) (row : Row) : Type 0 where
  pub scope_is : IsScope plan scope
  pub alone : length scope.others.items ≡ 0
  pub there : scope.core < length plan.rows
  pub row_is : row ≡ get_or plan.rows scope.core row

-- the owner of a place of the first segment
owner_first : (plan : PlanView) (scope : Scope) (row : Row) (start : ℕ) (s : Segment) (ss : List Segment) (x : ℕ)
    → Holds plan scope row → IsRest row start (s ∷ ss) → start ≤ x → x < s.end
    → owner_at plan.rows scope.core x ≡ s.owner
owner_first plan scope row start s ss x is rest low lt =
    owner_read plan.rows scope.core x row s.owner is.there is.row_is (first_owner row start s ss x rest low lt)

-- the first segment is a span
first_span : (plan : PlanView) (scope : Scope) (row : Row) (start : ℕ) (s : Segment) (ss : List Segment)
    → Holds plan scope row → AreMaximal start (map segment_view (s ∷ ss)) ROUND → IsRest row start (s ∷ ss)
    → IsSpanEnd plan scope.core start s.end
first_span plan scope row start s ss is maximal rest =
    let less : start < s.end = maximal.0 in
    let first = owner_first plan scope row start s ss start is rest (omega arith) less in
    record {
      after = less;
      within = maximal_end s.end (map segment_view ss) ROUND maximal.2;
      alike = λ x low lt. alike_owners plan scope start x is.scope_is is.alone
          (first ∙ sym (owner_first plan scope row start s ss x is rest low lt));
      maximal = last ss maximal (rest_next row start s ss rest less) first;
    }
  where
    last : (ts : List Segment) → AreMaximal start (map segment_view (s ∷ ts)) ROUND → IsRest row s.end ts
        → owner_at plan.rows scope.core start ≡ s.owner
        → (s.end ≡ ROUND) ⊎ (SameSpot plan scope.core start s.end → ⊥)
    last [] most next first = inl most.2
    last (t ∷ ts) most next first =
        inr (λ same.
        (let begin : s.end < t.end = most.2.0 in
        let second = owner_first plan scope row s.end t ts s.end is next (omega arith) begin in
        most.1 (sym first ∙ (same.owner ∙ second))))

-- the spans of all segments are those of the row
pub own_are : (plan : PlanView) (scope : Scope) (row : Row) (start : ℕ) (ss : List Segment) (spans : List FullSpan)
    → Holds plan scope row → AreMaximal start (map segment_view ss) ROUND → IsRest row start ss
    → AreOwnSpans scope.sharers ss (length ss) spans → AreSpansOf plan scope.core start spans ROUND
own_are plan scope row start [] [] is maximal rest own = maximal
own_are plan scope row start [] (x ∷ xs) is maximal rest own = absurd (omega (arith, own.count))
own_are plan scope row start (s ∷ ss) [] is maximal rest own = absurd (omega (arith, own.count))
own_are plan scope row start (s ∷ ss) (x ∷ xs) is maximal rest own =
    let less : start < s.end = maximal.0 in
    let here : IsOwnSpan scope.sharers s x = own.each 0 s x refl refl in
    let others = own_are plan scope row s.end ss xs is maximal.2 (rest_next row start s ss rest less) (record {
      count = omega (arith, own.count);
      each = λ k t u at there. own.each (suc k) t u at there;
    }) in (
      own_shown plan scope start s x is.scope_is is.alone here
          (owner_first plan scope row start s ss start is rest (omega arith) less),
      subst (IsSpanEnd plan scope.core start) (sym here.end) (first_span plan scope row start s ss is maximal rest),
      subst (λ (end : ℕ). AreSpansOf plan scope.core end xs ROUND) (sym here.end) others,
    )

-- a row's segments are maximal
pub row_maximal : (row : Row) (ss : List Segment) → map segment_view ss ≡ segments_from 0 row → cells_from 0 ss ≡ row
    → RisesTo 0 ss ROUND → AreMaximal 0 (map segment_view ss) ROUND
row_maximal row ss are cells rises =
    let size = length-cells_from 0 ss ROUND rises in
    let same = ap length cells in
    subst (λ (ts : List SegmentView). AreMaximal 0 ts ROUND) (sym are)
    (maximal_of_row 0 row ROUND (omega arith))

-- each segment has at least one tick, so there are no more segments than ticks
pub segments_few : (start : ℕ) (ss : List Segment) (end : ℕ) → RisesTo start ss end → start + length ss ≤ end
segments_few start [] end rises = (let same = rises_none start end rises in omega arith)
segments_few start (s ∷ ss) end rises =
    (let parts = rises_parts start s ss end rises in let rest = segments_few s.end ss end parts.1 in
    omega (arith, parts.0))

-- one entry more, where more may be shown
pub within_more : (entries : List SpanEntry) (e : SpanEntry) (n m : ℕ)
    → All (λ (x : SpanEntry). x.shown < n) entries → n ≤ m → e.shown < m
    → All (λ (x : SpanEntry). x.shown < m) (entries ++ e ∷ [])
within_more [] e n m small le lt zero d there = lt
within_more [] e n m small le lt (suc k) d there = absurd (omega arith)
within_more (x ∷ xs) e n m small le lt zero d there =
    (let old : x.shown < n = All-head (λ (y : SpanEntry). y.shown < n) x xs small in omega arith)
within_more (x ∷ xs) e n m small le lt (suc k) d there =
    within_more xs e n m (All-tail (λ (y : SpanEntry). y.shown < n) x xs small) le lt k d (omega arith)

-- no span yet
pub own_none : (core_sharers : List Bool) (ss : List Segment) → AreOwnSpans core_sharers ss 0 []
own_none core_sharers ss = record { count = refl; each = λ k s x at there. absurd cc }

-- one span more
pub own_more : (core_sharers : List Bool) (ss : List Segment) (n : ℕ) (spans : List FullSpan) (s : Segment)
    (span : FullSpan) → AreOwnSpans core_sharers ss n spans → slice_get ss n ≡ Some s
    → IsOwnSpan core_sharers s span → AreOwnSpans core_sharers ss (n + 1) (spans ++ span ∷ [])
own_more core_sharers ss n spans s span own is of = record {
  count = (let more = length-append spans (span ∷ []) in omega (arith, more, own.count));
  each = λ k t u at there. elim (push_split spans k span u there) [
    | inl old ↦ own.each k t u at old
    | inr new ↦
        let here : slice_get ss k ≡ Some s = ap (slice_get ss) (new.0 ∙ own.count) ∙ is in
        subst (IsOwnSpan core_sharers t) new.1 (subst (λ (x : Segment). IsOwnSpan core_sharers x span)
        (same_Some {A = Segment} s t (sym here ∙ at)) of)
  ];
}

-- at first no number is known
pub known_none : (core_sharers : List Bool) → AreKnown core_sharers [] (replicate 257 NONE)
known_none core_sharers place lt =
    inl (get_or_default (replicate 257 NONE) place 0 NONE (omega arith) ∙ get_or-replicate_same 257 place NONE)

-- What a table shows at each place, from what it shows where its spans begin.
use Rattle.std.proofs.Common.{◌≡◌, ◌↔◌, ℕ, Bool, Option, zero, suc, ◌+◌, ◌<◌, ◌≤◌, List, [], ◌∷◌, ◌++◌, length, Some, inl, inr, refl, subst, sym, ◌∙◌, arith}
use Rattle.std.specs.Prelude.{IsTrue, slice_get, slice_index}
use Rattle.std.proofs.lemmas.List.{length-map}
use Rattle.std.proofs.lemmas.Option.{same_Some}
use Rattle.tab_core.specs.declared.TheConstants.{ROUND}
use Rattle.tab_core.specs.VcpuSets.{has_vcpu}
use Rattle.table_form.specs.declared.spot.Spot.{Spot}
use Rattle.table_form.specs.Tables.Plans.{PlanView}
use Rattle.table_form.specs.Tables.Spans.{IsSharer, IsSpan}
use Rattle.table_form.specs.Tables.Spots.{AreSpans, HasSpans, IsAway, IsSpanEnd, IsSpot, SameSpot}
use Rattle.table_form.proofs.SpotLemmas.{spot_through, sharer_moves}
use Rattle.slice_table.specs.declared.full_span.FullSpan.{FullSpan}
use Rattle.slice_table.specs.Inside.Spans.{AreEnds}
use Rattle.slice_table.specs.Slices.{AreSpansOf, HoldsTick, IsShown, IsTableOf, ends_of}

-- places that are alike are so both ways
same_back : (plan : PlanView) (c x y : ℕ) → SameSpot plan c x y → SameSpot plan c y x
same_back plan c x y same = record { owner = sym same.owner; away = same.back; back = same.away }

-- a span shows at one of two alike places what it shows at the other
shown_moves : (plan : PlanView) (c x y : ℕ) (span : FullSpan) → SameSpot plan c x y → IsShown plan c x span
    → IsShown plan c y span
shown_moves plan c x y span same shown = record {
  owner = shown.owner ∙ same.owner;
  away = λ v lt.
      (λ has. same.away v ((shown.away v lt).0 has), λ away. (shown.away v lt).1 (same.back v away));
  sharers = λ v lt. (
    λ has. sharer_moves plan c x y v same ((shown.sharers v lt).0 has),
    λ sharer. (shown.sharers v lt).1 (sharer_moves plan c y x v (same_back plan c x y same) sharer),
  );
}

-- a span's end is that of each place of the span
span_moves : (plan : PlanView) (c x y end : ℕ) → x ≤ y → y < end → IsSpanEnd plan c x end
    → IsSpanEnd plan c y end
span_moves plan c x y end low less span =
    let same : SameSpot plan c x y = span.alike y low less in
    record {
      after = less;
      within = span.within;
      alike = λ z le lt.
          spot_through plan c y x z (same_back plan c x y same) (span.alike z (omega arith) lt);
      maximal = elim span.maximal [
        | inl whole ↦ inl whole
        | inr unlike ↦ inr (λ alike. unlike (spot_through plan c x y end same alike))
      ];
    }

-- what a place shows, and where its span ends
pub record ShowsAt (plan : PlanView) (c x : ℕ) (span : FullSpan) : Type 0 where
  pub shown : IsShown plan c x span
  pub end : IsSpanEnd plan c x span.end

-- the span that holds a place shows it
pub shown_at : (plan : PlanView) (c from to : ℕ) (spans : List FullSpan) (k x : ℕ) (span : FullSpan)
    → AreSpansOf plan c from spans to → slice_get spans k ≡ Some span
    → slice_index (from ∷ ends_of spans) k ≤ x → x < span.end → ShowsAt plan c x span
shown_at plan c from to [] k x span are at low less = absurd cc
shown_at plan c from to (s ∷ ss) zero x span are at low less =
    let is : s ≡ span = same_Some {A = FullSpan} s span at in
    let here : ShowsAt plan c from span = subst (ShowsAt plan c from) is
    (record { shown = are.0; end = are.1 }) in
    record {
      shown = shown_moves plan c from x span (here.end.alike x low less) here.shown;
      end = span_moves plan c from x span.end low less here.end;
    }
shown_at plan c from to (s ∷ ss) (suc k) x span are at low less =
    shown_at plan c s.end to ss k x span are.2 at low less

-- the spans' ends are the ends of the core's spans
ends_are : (plan : PlanView) (c from to : ℕ) (spans : List FullSpan) → AreSpansOf plan c from spans to
    → AreSpans plan c from (ends_of spans) to
ends_are plan c from to [] are = are
ends_are plan c from to (s ∷ ss) are = (are.1, ends_are plan c s.end to ss are.2)

-- the core has as many spans as the table has ends
pub spans_counted : (plan : PlanView) (c count : ℕ) (table : List FullSpan) → IsTableOf plan c table
    → count ≡ length table → HasSpans plan c ROUND count
spans_counted plan c count table is counted = record {
  ends = ends_of table;
  spans = ends_are plan c 0 ROUND table is.spans;
  count_is = length-map table (λ (span : FullSpan). span.end) ∙ sym counted;
}

-- each span has at least one tick, so there are no more spans than ticks
pub spans_few : (plan : PlanView) (c from to : ℕ) (spans : List FullSpan) → AreSpansOf plan c from spans to
    → from + length spans ≤ to
spans_few plan c from to [] are = omega arith
spans_few plan c from to (s ∷ ss) are =
    (let rest = spans_few plan c s.end to ss are.2 in let after = are.1.after in omega arith)

-- each ends after its begin
spans_rise : (plan : PlanView) (c from to : ℕ) (spans : List FullSpan) → AreSpansOf plan c from spans to
    → (k : ℕ) → k < length (ends_of spans)
    → slice_index (from ∷ ends_of spans) k < slice_index (ends_of spans) k
spans_rise plan c from to [] are k lt = absurd (omega arith)
spans_rise plan c from to (s ∷ ss) are zero lt = are.1.after
spans_rise plan c from to (s ∷ ss) are (suc k) lt = spans_rise plan c s.end to ss are.2 k (omega arith)

-- the last one ends where they all do
spans_last : (plan : PlanView) (c from to : ℕ) (spans : List FullSpan) → AreSpansOf plan c from spans to
    → (k : ℕ) → k + 1 ≡ length (ends_of spans) → slice_index (ends_of spans) k ≡ to
spans_last plan c from to [] are k last = absurd (omega arith)
spans_last plan c from to (s ∷ []) are zero last = are.2
spans_last plan c from to (s ∷ t ∷ ss) are zero last = absurd (omega arith)
spans_last plan c from to (s ∷ ss) are (suc k) last = spans_last plan c s.end to ss are.2 k (omega arith)

-- no span ends after the round
spans_within : (plan : PlanView) (c from to : ℕ) (spans : List FullSpan) → AreSpansOf plan c from spans to
    → (k : ℕ) → k < length (ends_of spans) → slice_index (ends_of spans) k ≤ ROUND
spans_within plan c from to [] are k lt = absurd (omega arith)
spans_within plan c from to (s ∷ ss) are zero lt = are.1.within
spans_within plan c from to (s ∷ ss) are (suc k) lt = spans_within plan c s.end to ss are.2 k (omega arith)

-- over a whole round there is a span
spans_some : (plan : PlanView) (c : ℕ) (spans : List FullSpan) → AreSpansOf plan c 0 spans ROUND
    → 0 < length (ends_of spans)
spans_some plan c [] are = absurd (omega arith)
spans_some plan c (s ∷ ss) are = omega arith

-- the ends of the spans of a whole round
pub ends_of_spans : (plan : PlanView) (c : ℕ) (spans : List FullSpan) → AreSpansOf plan c 0 spans ROUND
    → AreEnds (ends_of spans)
ends_of_spans plan c spans are = record {
  some = spans_some plan c spans are;
  few = (let few = spans_few plan c 0 ROUND spans are in
      let count = length-map spans (λ (span : FullSpan). span.end) in omega arith);
  rise = spans_rise plan c 0 ROUND spans are;
  last = spans_last plan c 0 ROUND spans are;
  within = spans_within plan c 0 ROUND spans are;
}

-- one span more
pub spans_more : (plan : PlanView) (c from to : ℕ) (spans : List FullSpan) (span : FullSpan)
    → AreSpansOf plan c from spans to → IsShown plan c to span → IsSpanEnd plan c to span.end
    → AreSpansOf plan c from (spans ++ span ∷ []) span.end
spans_more plan c from to [] span are shown end =
    subst (λ (place : ℕ). AreSpansOf plan c place (span ∷ []) span.end) (sym are) (shown, end, refl)
spans_more plan c from to (s ∷ ss) span are shown end =
    (are.0, are.1, spans_more plan c s.end to ss span are.2 shown end)

-- a list has an element at each number below its length
pub some_span : (spans : List FullSpan) (k : ℕ) → k < length (ends_of spans)
    → (span : FullSpan) × (slice_get spans k ≡ Some span) × (slice_index (ends_of spans) k ≡ span.end)
some_span [] k lt = absurd (omega arith)
some_span (s ∷ ss) zero lt = (s, refl, refl)
some_span (s ∷ ss) (suc k) lt = some_span ss k (omega arith)

-- the span that holds the tick
pub record Held (spans : List FullSpan) (number tick : ℕ) : Type 0 where
  pub span : FullSpan
  pub at : slice_get spans number ≡ Some span
  pub end : slice_index (ends_of spans) number ≡ span.end
  pub after : tick < span.end
  pub shows : (plan : PlanView) (c : ℕ) → IsTableOf plan c spans → ShowsAt plan c tick span

-- where a span holds the tick it shows it
pub held_of : (spans : List FullSpan) (number tick : ℕ) → HoldsTick (ends_of spans) number tick
    → Held spans number tick
held_of spans number tick holds =
    let some = some_span spans number holds.there in
    let after : tick < some.0.end = (let before = holds.before in let end = some.2 in omega arith) in
    record {
      span = some.0;
      at = some.1;
      end = some.2;
      after = after;
      shows = λ plan c is.
          shown_at plan c 0 ROUND spans number tick some.0 is.spans some.1 holds.from after;
    }

-- as a spot
pub spot_of : (plan : PlanView) (c tick : ℕ) (span : FullSpan) (spot : Spot) → ShowsAt plan c tick span
    → spot.owner ≡ span.owner → spot.away ≡ span.away → spot.end ≡ span.end → IsSpot plan c tick spot
spot_of plan c tick span spot shows owner away end = record {
  owner = owner ∙ shows.shown.owner;
  away = λ v lt. subst (λ set. IsTrue (has_vcpu set v) ↔ IsAway plan c tick v) (sym away)
      (shows.shown.away v lt);
  span = subst (IsSpanEnd plan c tick) (sym end) shows.end;
}

-- as a dispatcher sees it
pub span_of_table : (plan : PlanView) (c tick : ℕ) (span : FullSpan) (owner : Option ℕ) (sharers : List Bool)
    (end : ℕ) → ShowsAt plan c tick span → owner ≡ span.owner → sharers ≡ span.sharers → end ≡ span.end
    → IsSpan plan c tick owner sharers end
span_of_table plan c tick span owner sharers end shows owner_is sharers_are end_is = record {
  owner_is = owner_is ∙ shows.shown.owner;
  sharers_are = λ v lt.
      subst (λ set. IsTrue (has_vcpu set v) ↔ IsSharer plan c tick v) (sym sharers_are)
      (shows.shown.sharers v lt);
  span = subst (IsSpanEnd plan c tick) (sym end_is) shows.end;
}

-- Neighbours of one owner joined: where a maximal segment ends, and what the loop keeps.
use Rattle.std.proofs.Common.{◌≡◌, ℕ, zero, suc, ◌+◌, ◌<◌, ◌≤◌, Bool, true, false, not, List, [], ◌∷◌, ◌++◌, length, map, take, drop, get_or, set, slice_get, Some, refl, ap, subst, sym, ◌∙◌, inl, inr, arith, add-one, append_assoc, length-set}
use Rattle.std.proofs.Math.Seq.{drop-cons}
use Rattle.std.specs.Prelude.{◌↔◌, IsTrue}
use Rattle.std.proofs.lemmas.Bool.{false≢true}
use Rattle.std.proofs.lemmas.List.{append-nil, drop-set-lt, drop_all, map-append, take_more_set}
use Rattle.std.proofs.lemmas.Option.{get_or_from_slice_get, slice_get_within}
use Rattle.tab_core.specs.declared.TheConstants.{ROUND}
use Rattle.tab_core.proofs.Lists.{rest_later}
use Rattle.table_form.specs.Tables.Rows.{RisesTo, cells_from}
use Rattle.table_form.specs.Tables.Segments.{BeginsOther, put_front, segment_view, segments_from}
use Rattle.table_form.specs.declared.segment.Segment.{Segment}
use Rattle.table_form.proofs.RowLemmas.{cells-nil, rises_parts}
use Rattle.table_form.proofs.SegmentLemmas.{front_begins, front_cases, front_joins, front_stays, same_first, segments_from-nil, segments_from-segment}

-- a segment ends a segment where the next one has another owner
pub segment_ends : (start : ℕ) (s : Segment) (ss : List Segment) (end : ℕ) → RisesTo start (s ∷ ss) end
    → BeginsOther s.owner (map segment_view ss)
    → segments_from start (cells_from start (s ∷ ss))
    ≡ segment_view s ∷ segments_from s.end (cells_from s.end ss)
segment_ends start s [] end rises other =
    let parts = rises_parts start s [] end rises in
    segments_from-segment start s [] parts.0
    ∙ front_stays (segment_view s) (segments_from s.end (cells_from s.end []))
    (subst (BeginsOther s.owner)
    (sym (ap (segments_from s.end) (cells-nil s.end) ∙ segments_from-nil s.end)) tt)
segment_ends start s (t ∷ ss) end rises other =
    let parts = rises_parts start s (t ∷ ss) end rises in
    let after = rises_parts s.end t ss end parts.1 in
    let next = segments_from-segment s.end t ss after.0 in
    let with = front_begins (segment_view t) (segments_from t.end (cells_from t.end ss)) in
    segments_from-segment start s (t ∷ ss) parts.0 ∙ front_stays (segment_view s)
    (segments_from s.end (cells_from s.end (t ∷ ss)))
    (subst (BeginsOther s.owner) (sym (next ∙ with.is)) (λ same. other (same ∙ sym with.same)))

-- a segment that the next one continues ends no segment
pub segment_goes_on : (start : ℕ) (s : Segment) (ss : List Segment) (end : ℕ) → RisesTo start (s ∷ ss) end →
    (BeginsOther s.owner (map segment_view ss) → ⊥)
    → segments_from start (cells_from start (s ∷ ss)) ≡ segments_from s.end (cells_from s.end ss)
segment_goes_on start s [] end rises with = absurd (with tt)
segment_goes_on start s (t ∷ ss) end rises with =
    let parts = rises_parts start s (t ∷ ss) end rises in
    let after = rises_parts s.end t ss end parts.1 in
    let next = segments_from-segment s.end t ss after.0 in
    let front = front_begins (segment_view t) (segments_from t.end (cells_from t.end ss)) in
    elim (front_cases s.owner (map segment_view (t ∷ ss))) [
      | inl other ↦ absurd (with other)
      | inr same ↦
          segments_from-segment start s (t ∷ ss) parts.0 ∙ ap (put_front (segment_view s)) (next ∙ front.is)
          ∙ front_joins (segment_view s) front.first front.rest
          (same_first s.owner (segment_view t) (map segment_view ss) same ∙ front.same)
          ∙ sym (next ∙ front.is)
    ]

-- the list from a place on begins with the segment there
segment_at : (ss : List Segment) (i : ℕ) (s : Segment) → slice_get ss i ≡ Some s
    → drop i ss ≡ s ∷ drop (i + 1) ss
segment_at ss i s at =
    let lt = slice_get_within ss i s at in
    rw (add-one i) (drop-cons ss i s lt ∙ ap (λ (x : Segment). x ∷ drop (suc i) ss)
    (get_or_from_slice_get ss i s s at))

-- a list has a segment at each place
pub some_segment : (ss : List Segment) (i : ℕ) → i < length ss → (s : Segment) × (slice_get ss i ≡ Some s)
some_segment [] i lt = absurd (omega arith)
some_segment (s ∷ ss) zero lt = (s, refl)
some_segment (s ∷ ss) (suc i) lt = some_segment ss i (omega arith)

-- a segment is the last of its owner exactly where the next one is of another
pub ends_by_next : (ss : List Segment) (i : ℕ) (s a b : Segment) (one : Bool) → slice_get ss i ≡ Some s
    → i + 1 < length ss → (IsTrue one ↔ ((get_or ss i a).owner ≡ (get_or ss (i + 1) b).owner))
    → (IsTrue (not one) ↔ BeginsOther s.owner (map segment_view (drop (i + 1) ss)))
ends_by_next ss i s a b one is lt tells =
    let next = get_or ss (i + 1) b in
    let tells' : IsTrue one ↔ (s.owner ≡ next.owner) =
    subst (λ (x : Segment). IsTrue one ↔ (x.owner ≡ next.owner)) (get_or_from_slice_get ss i s a is) tells in
    subst (λ ts. IsTrue (not one) ↔ BeginsOther s.owner (map segment_view ts)) (sym (drop-cons ss (i + 1) b lt)) (
      λ other owners. differs one other (tells'.1 owners),
      λ differ. is_other one (λ holds. differ (tells'.0 holds)),
    )
  where
    differs : (b : Bool) → IsTrue (not b) → IsTrue b → ⊥
    differs true other holds = false≢true other
    differs false other holds = false≢true holds

    is_other : (b : Bool) → (IsTrue b → ⊥) → IsTrue (not b)
    is_other true never = absurd (never refl)
    is_other false never = refl

-- the segments kept so far are the maximal ones before this index
pub record HasJoined (old now : List Segment) (kept at : ℕ) : Type 0 where
  pub few : kept ≤ at
  pub size : length now ≡ length old
  pub rest : drop at now ≡ drop at old
  pub start : ℕ
  pub rises : RisesTo start (drop at old) ROUND
  pub leads : map segment_view (take kept now) ++ segments_from start (cells_from start (drop at old))
      ≡ segments_from 0 (cells_from 0 old)

-- the loop begins
pub none_joined : (old : List Segment) → RisesTo 0 old ROUND → HasJoined old old 0 0
none_joined old rises = record {
  few = omega arith;
  size = refl;
  rest = refl;
  start = 0;
  rises = rises;
  leads = refl;
}

-- a segment before one of its owner isn't kept
pub one_passed : (old now : List Segment) (kept at : ℕ) (s : Segment) → slice_get now at ≡ Some s
    → (BeginsOther s.owner (map segment_view (drop (at + 1) now)) → ⊥)
    → HasJoined old now kept at → HasJoined old now kept (at + 1)
one_passed old now kept at s is goes_on so_far =
    let ss = drop (at + 1) old in
    let rest = rest_later old now at so_far.rest in
    let here : drop at old ≡ s ∷ ss = sym so_far.rest ∙ segment_at now at s is ∙ ap (λ ts. s ∷ ts) rest in
    let rises = subst (λ ts. RisesTo so_far.start ts ROUND) here so_far.rises in
    let with : BeginsOther s.owner (map segment_view ss) → ⊥ = λ other. goes_on
    (subst (λ ts. BeginsOther s.owner (map segment_view ts)) (sym rest) other) in
    record {
      few = omega (arith, so_far.few);
      size = so_far.size;
      rest = rest;
      start = s.end;
      rises = (rises_parts so_far.start s ss ROUND rises).1;
      leads = ap (λ ts. map segment_view (take kept now) ++ ts)
          (sym (ap (λ ts. segments_from so_far.start (cells_from so_far.start ts)) here
          ∙ segment_goes_on so_far.start s ss ROUND rises with)) ∙ so_far.leads;
    }

-- a segment that ends a maximal one is kept
pub one_kept : (old now : List Segment) (kept at : ℕ) (s : Segment) → slice_get now at ≡ Some s
    → BeginsOther s.owner (map segment_view (drop (at + 1) now))
    → HasJoined old now kept at → HasJoined old (set now kept s) (kept + 1) (at + 1)
one_kept old now kept at s is other so_far =
    let ss = drop (at + 1) old in
    let lt = slice_get_within now at s is in
    let rest = rest_later old now at so_far.rest in
    let here : drop at old ≡ s ∷ ss = sym so_far.rest ∙ segment_at now at s is ∙ ap (λ ts. s ∷ ts) rest in
    let rises = subst (λ ts. RisesTo so_far.start ts ROUND) here so_far.rises in
    let ends : BeginsOther s.owner (map segment_view ss) =
    subst (λ ts. BeginsOther s.owner (map segment_view ts)) rest other in
    let front = map segment_view (take kept now) in
    let behind = segments_from s.end (cells_from s.end ss) in
    record {
      few = omega (arith, so_far.few);
      size = length-set now kept s ∙ so_far.size;
      rest = drop-set-lt (at + 1) now kept s (omega (arith, so_far.few)) ∙ rest;
      start = s.end;
      rises = (rises_parts so_far.start s ss ROUND rises).1;
      leads = ap (λ ts. map segment_view ts ++ behind)
          (take_more_set now kept s (omega (arith, so_far.few, lt)))
          ∙ ap (λ ts. ts ++ behind) (map-append segment_view (take kept now) (s ∷ []))
          ∙ append_assoc front (segment_view s ∷ []) behind
          ∙ ap (λ ts. front ++ ts)
          (sym (ap (λ ts. segments_from so_far.start (cells_from so_far.start ts)) here
          ∙ segment_ends so_far.start s ss ROUND rises ends)) ∙ so_far.leads;
    }

-- after the last one they are those of the cells
pub all_joined : (old now : List Segment) (kept at : ℕ) → length now ≤ at → HasJoined old now kept at
    → map segment_view (take kept now) ≡ segments_from 0 (cells_from 0 old)
all_joined old now kept at past so_far =
    let none : drop at old ≡ [] = drop_all at old (omega (arith, so_far.size)) in
    let nothing : segments_from so_far.start (cells_from so_far.start (drop at old)) ≡ [] =
    ap (λ ts. segments_from so_far.start (cells_from so_far.start ts)) none
    ∙ ap (segments_from so_far.start) (cells-nil so_far.start) ∙ segments_from-nil so_far.start in
    sym (append-nil (map segment_view (take kept now)))
    ∙ ap (λ ts. map segment_view (take kept now) ++ ts) (sym nothing) ∙ so_far.leads

-- What the second rule keeps: the segments stay maximal, and there are no more of them.
use Rattle.std.proofs.Common.{◌≡◌, ℕ, ◌+◌, ◌-◌, ◌<◌, ◌≤◌, Bool, true, false, List, [], ◌∷◌, ◌++◌, length, map, take, drop, get_or, set, None, refl, ap, subst, sym, ◌∙◌, arith, append_assoc, length-set, take_all}
use Rattle.std.proofs.lemmas.List.{append-nil, drop-set-lt, drop_all, map-append, set-get_or, take_more_set}
use Rattle.tab_core.specs.declared.TheConstants.{ROUND}
use Rattle.tab_core.proofs.Lists.{drop_next, rest_later}
use Rattle.table_form.specs.Tables.Rows.{RisesTo, cells_from}
use Rattle.table_form.specs.Tables.Segments.{AreMaximal, SegmentView, put_front, segment_view, segments_from}
use Rattle.table_form.specs.declared.segment.Segment.{Segment}
use Rattle.coalesce.specs.Joining.{filled, filled_after, given_sliver, is_given}
use Rattle.coalesce.specs.Inside.Passing.{given_all}
use Rattle.coalesce.proofs.Swapping.{front_length}
use Rattle.table_form.proofs.RowLemmas.{cells-nil, rises_from_parts, rises_here}
use Rattle.table_form.proofs.SegmentLemmas.{maximal_front, segments_from-nil, segments_from-segment}

-- a segment ends where it did
pub given_end : (may_grow : ℕ → Bool) (sliver : ℕ) (x y : SegmentView)
    → (given_sliver may_grow sliver x y).end ≡ y.end
given_end may_grow sliver x y = by_test (is_given may_grow sliver x.owner y.owner (y.end - x.end)) refl
  where
    by_test : (b : Bool) → is_given may_grow sliver x.owner y.owner (y.end - x.end) ≡ b →
        (given_sliver may_grow sliver x y).end ≡ y.end
    by_test true e = rw e refl
    by_test false e = rw e refl

-- giving segments away joins neighbours, so the rest stays maximal, from any start
pub filled_after_maximal : (may_grow : ℕ → Bool) (sliver start : ℕ) (x : SegmentView)
    (ts : List SegmentView) (end : ℕ)
    → AreMaximal start ts end → AreMaximal start (filled_after may_grow sliver x ts) end
filled_after_maximal may_grow sliver start x [] end m = m
filled_after_maximal may_grow sliver start x (y ∷ ts) end m =
    let e = given_end may_grow sliver x y in
    let rest = filled_after_maximal may_grow sliver y.end y ts end m.2 in
    maximal_front start (given_sliver may_grow sliver x y) (filled_after may_grow sliver y ts) end
    (omega (arith, e, m.0))
    (subst (λ n. AreMaximal n (filled_after may_grow sliver y ts) end) (sym e) rest)

-- the filled row is maximal, which makes it a table
pub filled_maximal : (may_grow : ℕ → Bool) (sliver : ℕ) (ts : List SegmentView) (end : ℕ)
    → AreMaximal 0 ts end
    → AreMaximal 0 (filled may_grow sliver ts) end
filled_maximal may_grow sliver ts end m = filled_after_maximal may_grow sliver 0
    (record { owner = None; end = 0 }) ts end m

-- the filled row has no more segments
pub filled_after_length : (may_grow : ℕ → Bool) (sliver : ℕ) (x : SegmentView) (ts : List SegmentView)
    → length
    (filled_after may_grow sliver x ts) ≤ length ts
filled_after_length may_grow sliver x [] = omega arith
filled_after_length may_grow sliver x (y ∷ ts) =
    omega (
      arith,
      front_length (given_sliver may_grow sliver x y)
          (filled_after may_grow sliver y ts),
      filled_after_length may_grow sliver y ts,
    )

-- ---- in place

-- an idle segment that is given has the owner of the one before it
pub given_when : (may_grow : ℕ → Bool) (sliver : ℕ) (x y : SegmentView)
    → is_given may_grow sliver x.owner y.owner (y.end - x.end) ≡ true
    → record { owner = x.owner; end = y.end } ≡ given_sliver may_grow sliver x y
given_when may_grow sliver x y is = rw is refl

-- a segment that isn't given keeps its own owner
pub given_unless : (may_grow : ℕ → Bool) (sliver : ℕ) (x y : SegmentView)
    → is_given may_grow sliver x.owner y.owner (y.end - x.end) ≡ false → y ≡ given_sliver may_grow sliver x y
given_unless may_grow sliver x y isnt = rw isnt refl

-- with the given owners the ends rise as they did
pub given_rise : (may_grow : ℕ → Bool) (sliver start : ℕ) (x : SegmentView) (ys : List SegmentView)
    (ss : List Segment) (end : ℕ) → AreMaximal start ys end
    → map segment_view ss ≡ given_all may_grow sliver x ys → RisesTo start ss end
given_rise may_grow sliver start x [] [] end m is = rises_here start end m
given_rise may_grow sliver start x [] (s ∷ ss) end m is = absurd cc
given_rise may_grow sliver start x (y ∷ ys) [] end m is = absurd cc
given_rise may_grow sliver start x (y ∷ ys) (s ∷ ss) end m is =
    let both : segment_view s ∷ map segment_view ss
    ≡ given_sliver may_grow sliver x y ∷ given_all may_grow sliver y ys = is in
    let here : segment_view s ≡ given_sliver may_grow sliver x y = cc in
    let there : map segment_view ss ≡ given_all may_grow sliver y ys = cc in
    let same : s.end ≡ y.end = ap (λ (t : SegmentView). t.end) here ∙ given_end may_grow sliver x y in
    rises_from_parts start s ss end (omega (arith, m.0, same))
    (given_rise may_grow sliver s.end y ys ss end (subst (λ n. AreMaximal n ys end) (sym same) m.2) there)

-- segments with the given owners, neighbours of one owner joined, are the filled segments
pub given_filled : (may_grow : ℕ → Bool) (sliver start : ℕ) (x : SegmentView) (ys : List SegmentView)
    (ss : List Segment) (end : ℕ) → AreMaximal start ys end
    → map segment_view ss ≡ given_all may_grow sliver x ys
    → segments_from start (cells_from start ss) ≡ filled_after may_grow sliver x ys
given_filled may_grow sliver start x [] [] end m is =
    ap (segments_from start) (cells-nil start) ∙ segments_from-nil start
given_filled may_grow sliver start x [] (s ∷ ss) end m is = absurd cc
given_filled may_grow sliver start x (y ∷ ys) [] end m is = absurd cc
given_filled may_grow sliver start x (y ∷ ys) (s ∷ ss) end m is =
    let both : segment_view s ∷ map segment_view ss
    ≡ given_sliver may_grow sliver x y ∷ given_all may_grow sliver y ys = is in
    let here : segment_view s ≡ given_sliver may_grow sliver x y = cc in
    let there : map segment_view ss ≡ given_all may_grow sliver y ys = cc in
    let same : s.end ≡ y.end = ap (λ (t : SegmentView). t.end) here ∙ given_end may_grow sliver x y in
    segments_from-segment start s ss (omega (arith, m.0, same))
    ∙ (ap (λ t. put_front t (segments_from s.end (cells_from s.end ss))) here
    ∙ ap (put_front (given_sliver may_grow sliver x y)) (given_filled may_grow sliver s.end y ys ss end
    (subst (λ n. AreMaximal n ys end) (sym same) m.2) there))

-- the segments below this index have the owners that they are given
pub record HasGiven (may_grow : ℕ → Bool) (sliver : ℕ) (old now : List Segment) (at : ℕ)
    (before : SegmentView) : Type 0 where
  pub size : length now ≡ length old
  pub rest : drop at now ≡ drop at old
  pub rises : AreMaximal before.end (map segment_view (drop at old)) ROUND
  pub leads : map segment_view (take at now)
      ++ given_all may_grow sliver before (map segment_view (drop at old))
      ≡ given_all may_grow sliver (record { owner = None; end = 0 }) (map segment_view old)

-- before the first segment
pub none_given : (may_grow : ℕ → Bool) (sliver : ℕ) (old : List Segment)
    → AreMaximal 0 (map segment_view old) ROUND
    → HasGiven may_grow sliver old old 0 (record { owner = None; end = 0 })
none_given may_grow sliver old m = record { size = refl; rest = refl; rises = m; leads = refl }

-- the next segment before those after it, and what it rises from
pub next_given : (may_grow : ℕ → Bool) (sliver : ℕ) (old now : List Segment) (at : ℕ) (before : SegmentView)
    (s : Segment) → at < length now → s ≡ get_or now at s → HasGiven may_grow sliver old now at before
    → (drop at old ≡ s ∷ drop (at + 1) old) × (before.end < s.end)
next_given may_grow sliver old now at before s lt is so_far =
    let here : drop at old ≡ s ∷ drop (at + 1) old = sym so_far.rest ∙ (drop_next now at s lt is
    ∙ ap (λ ss. s ∷ ss) (rest_later old now at so_far.rest)) in
    (here, (subst (λ ts. AreMaximal before.end (map segment_view ts) ROUND) here so_far.rises).0)

-- one segment more, with its owner
pub one_given : (may_grow : ℕ → Bool) (sliver : ℕ) (old now : List Segment) (at : ℕ) (before : SegmentView)
    (s t : Segment) → at < length now → s ≡ get_or now at s
    → segment_view t ≡ given_sliver may_grow sliver before (segment_view s)
    → HasGiven may_grow sliver old now at before
    → HasGiven may_grow sliver old (set now at t) (at + 1) (segment_view s)
one_given may_grow sliver old now at before s t lt is owned so_far =
    let here = (next_given may_grow sliver old now at before s lt is so_far).0 in
    let front = map segment_view (take at now) in
    let behind = given_all may_grow sliver (segment_view s) (map segment_view (drop (at + 1) old)) in
    record {
      size = length-set now at t ∙ so_far.size;
      rest = drop-set-lt (at + 1) now at t (omega arith) ∙ rest_later old now at so_far.rest;
      rises = (subst (λ ts. AreMaximal before.end (map segment_view ts) ROUND) here so_far.rises).2;
      leads = ap (λ ts. map segment_view ts ++ behind) (take_more_set now at t lt)
          ∙ (ap (λ ts. ts ++ behind) (map-append segment_view (take at now) (t ∷ []))
          ∙ (append_assoc front (segment_view t ∷ []) behind
          ∙ (ap (λ u. front ++ (u ∷ behind)) owned
          ∙ (ap (λ ts. front ++ given_all may_grow sliver before (map segment_view ts)) (sym here)
          ∙ so_far.leads))));
    }

-- one that has its own
pub one_left : (may_grow : ℕ → Bool) (sliver : ℕ) (old now : List Segment) (at : ℕ) (before : SegmentView)
    (s : Segment) → at < length now → s ≡ get_or now at s
    → segment_view s ≡ given_sliver may_grow sliver before (segment_view s)
    → HasGiven may_grow sliver old now at before
    → HasGiven may_grow sliver old now (at + 1) (segment_view s)
one_left may_grow sliver old now at before s lt is own so_far =
    subst (λ ss. HasGiven may_grow sliver old ss (at + 1) (segment_view s))
    (ap (set now at) is ∙ set-get_or now at s)
    (one_given may_grow sliver old now at before s s lt is own so_far)

-- after the last one all have
pub all_given : (may_grow : ℕ → Bool) (sliver : ℕ) (old now : List Segment) (at : ℕ) (before : SegmentView)
    → length now ≤ at → HasGiven may_grow sliver old now at before
    → map segment_view now ≡ given_all may_grow sliver (record { owner = None; end = 0 }) (map segment_view old)
all_given may_grow sliver old now at before past so_far =
    let none : drop at old ≡ [] = drop_all at old (omega (arith, so_far.size, past)) in
    let all : take at now ≡ now = take_all at now past in
    sym (append-nil (map segment_view now))
    ∙ (ap (λ ts. map segment_view ts ++ []) (sym all)
    ∙ (ap (λ ts. map segment_view (take at now) ++ given_all may_grow sliver before (map segment_view ts)) (sym none)
    ∙ so_far.leads))

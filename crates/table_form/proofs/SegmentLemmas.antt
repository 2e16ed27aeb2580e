-- Maximal segments, and the cells that they stand for.
use Rattle.std.proofs.Common.{◌≡◌, ◌≢◌, ℕ, zero, suc, ◌+◌, ◌-◌, ◌<◌, ◌≤◌, Bool, true, false, eqb, leb, ltb, List, [], ◌∷◌, ◌++◌, length, map, replicate, Option, Some, None, ◌⊎◌, refl, ap, subst, sym, ◌∙◌, inl, inr, arith, append_assoc}
use Rattle.std.specs.Option.{option_eq}
use Rattle.std.proofs.lemmas.List.{replicate-append-replicate}
use Rattle.std.proofs.lemmas.Bool.{and_from, eq-eqb, false≢true, le-leb, lt-ltb}
use Rattle.tab_core.specs.declared.TheConstants.{ROUND}
use Rattle.table_form.specs.Tables.Rows.{Row, RisesTo, bad_place, cells_from}
use Rattle.table_form.specs.Tables.Segments.{AreMaximal, BeginsOther, SegmentView, put_front, segment_view, segments_from}
use Rattle.table_form.specs.declared.segment.Segment.{Segment}
use Rattle.table_form.proofs.RowLemmas.{cells-cons, cells-nil, length-cells_from, rises_from_parts, rises_here, same_owner}

-- `put_front` tests owners by `option_eq`, which each owner passes with itself
pub same_as_itself : (o : Option ℕ) → option_eq eqb o o ≡ true
same_as_itself None = refl
same_as_itself (Some v) = eq-eqb v v refl

-- a segment before one of another owner stays
pub front_stays : (s : SegmentView) (ts : List SegmentView) → BeginsOther s.owner ts → put_front s ts ≡ s ∷ ts
front_stays s [] other = refl
front_stays s (t ∷ ts) other = by_test (option_eq eqb s.owner t.owner) refl
  where
    by_test : (b : Bool) → option_eq eqb s.owner t.owner ≡ b → put_front s (t ∷ ts) ≡ s ∷ t ∷ ts
    by_test true same = absurd (other (same_owner s.owner t.owner same))
    by_test false differ = rw differ refl

-- a segment before one of its owner joins that
pub front_joins : (s t : SegmentView) (ts : List SegmentView) → s.owner ≡ t.owner
    → put_front s (t ∷ ts) ≡ t ∷ ts
front_joins s t ts same = rw same (rw (same_as_itself t.owner) refl)

-- the first of the segments has the owner
pub record BeginsWith (owner : Option ℕ) (ts : List SegmentView) : Type 0 where
  pub first : SegmentView
  pub rest : List SegmentView
  pub is : ts ≡ first ∷ rest
  pub same : owner ≡ first.owner

-- each list begins with another owner or with this one, by the test of `put_front`
pub front_cases : (o : Option ℕ) (ts : List SegmentView) → BeginsOther o ts ⊎ BeginsWith o ts
front_cases o [] = inl tt
front_cases o (t ∷ ts) = by_test (option_eq eqb o t.owner) refl
  where
    by_test : (b : Bool) → option_eq eqb o t.owner ≡ b → BeginsOther o (t ∷ ts) ⊎ BeginsWith o (t ∷ ts)
    by_test true same = inr (record { first = t; rest = ts; is = refl; same = same_owner o t.owner same })
    by_test false differ = inl (λ same. false≢true
        (sym differ ∙ ap (λ x. option_eq eqb x t.owner) same ∙ same_as_itself t.owner))

-- the owner of the first, to compare two ways of naming it
owner_at_front : List SegmentView → Option ℕ
owner_at_front [] = None
owner_at_front (t ∷ ts) = t.owner

-- where a list is known to begin with an owner, its first segment has it
pub same_first : (o : Option ℕ) (t : SegmentView) (ts : List SegmentView) → BeginsWith o (t ∷ ts)
    → o ≡ t.owner
unfolding owner_at_front
same_first o t ts with = with.same ∙ ap owner_at_front (sym with.is)

-- what comes first begins with its owner
pub front_begins : (s : SegmentView) (ts : List SegmentView) → BeginsWith s.owner (put_front s ts)
front_begins s ts = elim (front_cases s.owner ts) [
  | inl other ↦ record { first = s; rest = ts; is = front_stays s ts other; same = refl }
  | inr with ↦ record {
    first = with.first;
    rest = with.rest;
    is = ap (put_front s) with.is
        ∙ front_joins s with.first with.rest with.same;
    same = with.same;
  }
]

-- of two segments of one owner the second is left
pub front_twice : (s t : SegmentView) (ts : List SegmentView) → s.owner ≡ t.owner → put_front s
    (put_front t ts) ≡ put_front t ts
front_twice s t ts same =
    let with = front_begins t ts in
    ap (put_front s) with.is ∙ front_joins s with.first with.rest (same ∙ with.same) ∙ sym with.is

-- before a segment of another owner it stays, whatever that one joins
pub front_differs : (s t : SegmentView) (ts : List SegmentView) → s.owner ≢ t.owner → put_front s
    (put_front t ts) ≡ s ∷ put_front t ts
front_differs s t ts differ =
    let with = front_begins t ts in
    ap (put_front s) with.is ∙ front_stays s (with.first ∷ with.rest)
    (λ same. differ (same ∙ sym with.same)) ∙ ap
    (λ us. s ∷ us) (sym with.is)

-- the ends rise, so the last is no earlier than the start
pub maximal_end : (start : ℕ) (ts : List SegmentView) (end : ℕ) → AreMaximal start ts end → start ≤ end
maximal_end start [] end m = omega (arith, m)
maximal_end start (t ∷ ts) end m = let rest = maximal_end t.end ts end m.2 in omega (arith, m.0, rest)

-- a segment before them keeps them maximal
pub maximal_front : (start : ℕ) (s : SegmentView) (ts : List SegmentView) (end : ℕ) → start < s.end
    → AreMaximal s.end ts end
    → AreMaximal start (put_front s ts) end
maximal_front start s [] end lt m = (lt, tt, m)
maximal_front start s (t ∷ ts) end lt m = elim (front_cases s.owner (t ∷ ts)) [
  | inl other ↦ subst (λ us. AreMaximal start us end) (sym (front_stays s (t ∷ ts) other)) (lt, other, m)
  | inr with ↦ subst (λ us. AreMaximal start us end) (sym (front_joins s t ts (same_first s.owner t ts with)))
      (omega (arith, lt, m.0), m.1, m.2)
]

-- no cell, no segment: where an induction over a row ends
pub segments_from-nil : (at : ℕ) → segments_from at [] ≡ []
unfolding segments_from
segments_from-nil at = refl

-- each cell of a row is put before the segments after it
pub segments_from-cons : (at : ℕ) (cell : Option ℕ) (cells : Row)
    → segments_from at (cell ∷ cells)
    ≡ put_front (record { owner = cell; end = at + 1 }) (segments_from (at + 1) cells)
unfolding segments_from
segments_from-cons at cell cells = refl

-- n + 1 cells of one owner before others are one segment
pub segments_from-replicate : (n at end : ℕ) (o : Option ℕ) (cells : Row) → end ≡ at + (n + 1)
    → segments_from at (replicate (suc n) o ++ cells)
    ≡ put_front (record { owner = o; end = end }) (segments_from end cells)
segments_from-replicate zero at end o cells e =
    let last : at + 1 ≡ end = omega (arith, e) in
    segments_from-cons at o cells
    ∙ ap (λ n. put_front (record { owner = o; end = n }) (segments_from n cells)) last
segments_from-replicate (suc n) at end o cells e =
    let rest = segments_from-replicate n (at + 1) end o cells (omega (arith, e)) in
    segments_from-cons at o (replicate (suc n) o ++ cells)
    ∙ ap (put_front (record { owner = o; end = at + 1 })) rest
    ∙ front_twice (record { owner = o; end = at + 1 }) (record { owner = o; end = end })
    (segments_from end cells) refl

-- a segment's cells before others are that segment before theirs
pub segments_from-segment : (start : ℕ) (s : Segment) (ss : List Segment) → start < s.end
    → segments_from start (cells_from start (s ∷ ss))
    ≡ put_front (segment_view s) (segments_from s.end (cells_from s.end ss))
segments_from-segment start s ss lt = rw (cells-cons start s ss) (some_cells (s.end - start) refl)
  where
    some_cells : (n : ℕ) → n ≡ s.end - start
        → segments_from start (replicate n s.owner ++ cells_from s.end ss)
        ≡ put_front (segment_view s) (segments_from s.end (cells_from s.end ss))
    some_cells zero e = absurd (omega arith)
    some_cells (suc n) e = segments_from-replicate n start s.end s.owner (cells_from s.end ss)
        (omega (arith, e))

-- a row's segments are maximal, as the type of a table keeps them
pub maximal_of_row : (at : ℕ) (row : Row) (end : ℕ) → at + length row ≡ end
    → AreMaximal at (segments_from at row) end
maximal_of_row at [] end e = subst (λ ts. AreMaximal at ts end) (sym (segments_from-nil at))
    (omega (arith, e))
maximal_of_row at (cell ∷ cells) end e =
    subst (λ ts. AreMaximal at ts end) (sym (segments_from-cons at cell cells))
    (maximal_front at (record { owner = cell; end = at + 1 }) (segments_from (at + 1) cells) end
    (omega arith)
    (maximal_of_row (at + 1) cells end (omega (arith, e))))

-- the cells that segments stand for
pub cells_of : ℕ → List SegmentView → Row
cells_of start [] = []
cells_of start (t ∷ ts) = replicate (t.end - start) t.owner ++ cells_of t.end ts

-- no segment, no cell
pub cells_of-nil : (start : ℕ) → cells_of start [] ≡ []
unfolding cells_of
cells_of-nil start = refl

-- the cells of the first, and those after it
pub cells_of-cons : (start : ℕ) (t : SegmentView) (ts : List SegmentView)
    → cells_of start (t ∷ ts) ≡ replicate
    (t.end - start) t.owner ++ cells_of t.end ts
unfolding cells_of
cells_of-cons start t ts = refl

-- cells of one owner, in two parts
pub replicate_parts : (o : Option ℕ) (low middle high : ℕ) (cells : Row) → low ≤ middle → middle ≤ high
    → replicate (high - low) o ++ cells ≡ replicate (middle - low) o ++ (replicate (high - middle) o ++ cells)
replicate_parts o low middle high cells le le' =
    let size : high - low ≡ (middle - low) + (high - middle) = omega arith in
    ap (λ n. replicate n o ++ cells) size ∙ ap (λ xs. xs ++ cells)
    (sym (replicate-append-replicate (middle - low) (high - middle) o))
    ∙ append_assoc (replicate (middle - low) o) (replicate (high - middle) o) cells

-- joining with the next doesn't change the cells
pub cells_of_front : (start : ℕ) (s : SegmentView) (ts : List SegmentView) (end : ℕ) → start ≤ s.end
    → AreMaximal s.end ts end
    → cells_of start (put_front s ts) ≡ replicate (s.end - start) s.owner ++ cells_of s.end ts
cells_of_front start s ts end le m = elim (front_cases s.owner ts) [
  | inl other ↦ ap (cells_of start) (front_stays s ts other) ∙ cells_of-cons start s ts
  | inr with ↦
      let t = with.first in
      let us = with.rest in
      let rises = (subst (λ vs. AreMaximal s.end vs end) with.is m).0 in
      ap (λ vs. cells_of start (put_front s vs)) with.is ∙ ap (cells_of start) (front_joins s t us with.same)
      ∙ cells_of-cons start t us
      ∙ ap (λ o. replicate (t.end - start) o ++ cells_of t.end us) (sym with.same)
      ∙ replicate_parts s.owner start s.end t.end (cells_of t.end us) le (omega (arith, rises))
      ∙ ap (λ o. replicate (s.end - start) s.owner
      ++ (replicate (t.end - s.end) o ++ cells_of t.end us)) with.same
      ∙ ap (λ cells. replicate (s.end - start) s.owner ++ cells)
      (sym (ap (cells_of s.end) with.is ∙ cells_of-cons s.end t us))
]

-- a row's segments stand for its cells
pub cells_of_segments : (at : ℕ) (row : Row) → cells_of at (segments_from at row) ≡ row
cells_of_segments at [] = ap (cells_of at) (segments_from-nil at) ∙ cells_of-nil at
cells_of_segments at (cell ∷ cells) =
    let one : at + 1 - at ≡ 1 = omega arith in
    ap (cells_of at) (segments_from-cons at cell cells)
    ∙ cells_of_front at (record { owner = cell; end = at + 1 }) (segments_from (at + 1) cells)
    (at + 1 + length cells) (omega arith) (maximal_of_row (at + 1) cells (at + 1 + length cells) refl)
    ∙ ap (λ n. replicate n cell ++ cells_of (at + 1) (segments_from (at + 1) cells)) one
    ∙ ap (λ rest. cell ∷ rest) (cells_of_segments (at + 1) cells)

-- maximal segments are those of their cells
pub segments_of_cells : (at : ℕ) (ts : List SegmentView) (end : ℕ) → AreMaximal at ts end → segments_from at
    (cells_of at ts) ≡ ts
segments_of_cells at [] end m = ap (segments_from at) (cells_of-nil at) ∙ segments_from-nil at
segments_of_cells at (t ∷ ts) end m =
    ap (segments_from at) (cells_of-cons at t ts) ∙ some_cells (t.end - at) refl
    ∙ ap (put_front t) (segments_of_cells t.end ts end m.2) ∙ front_stays t ts m.1
  where
    some_cells : (n : ℕ) → n ≡ t.end - at
        → segments_from at (replicate n t.owner ++ cells_of t.end ts) ≡ put_front t
        (segments_from t.end (cells_of t.end ts))
    some_cells zero e = absurd (omega (arith, e, m.0))
    some_cells (suc n) e = segments_from-replicate n at t.end t.owner (cells_of t.end ts)
        (omega (arith, e, m.0))

-- two rows of the same segments are one
pub same_row : (row row' : Row) → segments_from 0 row ≡ segments_from 0 row' → row ≡ row'
same_row row row' e = sym (cells_of_segments 0 row) ∙ ap (cells_of 0) e ∙ cells_of_segments 0 row'

-- segments stand for the cells of their segments
pub segments_are : (start : ℕ) (ss : List Segment)
    → cells_from start ss ≡ cells_of start (map segment_view ss)
segments_are start [] = cells-nil start ∙ sym (cells_of-nil start)
segments_are start (s ∷ ss) =
    cells-cons start s ss ∙ ap (λ cells. replicate (s.end - start) s.owner ++ cells)
    (segments_are s.end ss) ∙ sym
    (cells_of-cons start (segment_view s) (map segment_view ss))

-- maximal segments rise, so they make a row
pub segments_rise : (start : ℕ) (ss : List Segment) (end : ℕ) → AreMaximal start (map segment_view ss) end
    → RisesTo start ss end
segments_rise start [] end m = rises_here start end m
segments_rise start (s ∷ ss) end m = rises_from_parts start s ss end m.0 (segments_rise s.end ss end m.2)

-- maximal segments make a row
pub no_bad_place : (start : ℕ) (ss : List Segment) → AreMaximal start (map segment_view ss) ROUND
    → bad_place start ss ≡ None
unfolding bad_place
no_bad_place start [] m = rw (eq-eqb start ROUND m) refl
no_bad_place start (s ∷ ss) m =
    let le : s.end ≤ ROUND = maximal_end s.end (map segment_view ss) ROUND m.2 in
    rw (and_from (ltb start s.end) (leb s.end ROUND) (lt-ltb start s.end m.0) (le-leb s.end ROUND le))
    (rw (no_bad_place s.end ss m.2) refl)

-- maximal segments have a cell for each tick up to their end
pub maximal_length : (ss : List Segment) (end : ℕ) → AreMaximal 0 (map segment_view ss) end
    → length (cells_from 0 ss) ≡ end
maximal_length ss end m = let size = length-cells_from 0 ss end (segments_rise 0 ss end m) in omega arith

-- the segments that a table keeps are those of its cells
pub maximal_are : (ss : List Segment) → AreMaximal 0 (map segment_view ss) ROUND
    → map segment_view ss ≡ segments_from 0 (cells_from 0 ss)
maximal_are ss m =
    sym (ap (segments_from 0) (segments_are 0 ss) ∙ segments_of_cells 0 (map segment_view ss) ROUND m)

-- segments that are those of a row's cells stand for them
pub cells_are : (ss : List Segment) (row : Row) → map segment_view ss ≡ segments_from 0 row
    → cells_from 0 ss ≡ row
cells_are ss row is = segments_are 0 ss ∙ ap (cells_of 0) is ∙ cells_of_segments 0 row

-- the segments of a whole row's cells are maximal up to the round
pub maximal_of_cells : (ss ts : List Segment) → RisesTo 0 ss ROUND
    → map segment_view ts ≡ segments_from 0 (cells_from 0 ss) → AreMaximal 0 (map segment_view ts) ROUND
maximal_of_cells ss ts rises is =
    subst (λ us. AreMaximal 0 us ROUND) (sym is)
    (maximal_of_row 0 (cells_from 0 ss) ROUND
    (let size = length-cells_from 0 ss ROUND rises in omega arith))

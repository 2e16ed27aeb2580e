-- Segments before others, and the last of a list of segments.
use Rattle.std.proofs.Common.{◌≡◌, ◌≢◌, ℕ, ◌+◌, ◌-◌, ◌<◌, ◌≤◌, List, [], ◌∷◌, ◌++◌, length, map, set, replicate, Option, refl, ap, subst, sym, ◌∙◌, ◌⊎◌, inl, inr, arith, append_assoc, length-append}
use Rattle.std.proofs.Math.Seq.{set-append_seam}
use Rattle.std.proofs.lemmas.List.{append-nil, length-map, map-append}
use Rattle.table_form.specs.Inside.Appending.{EndsWithOwner}
use Rattle.table_form.specs.Tables.Segments.{put_before, AreMaximal, BeginsOther, SegmentView, put_front, segment_view}
use Rattle.table_form.specs.Tables.Rows.{cells_from}
use Rattle.table_form.specs.declared.segment.Segment.{Segment}
use Rattle.table_form.proofs.SegmentLemmas.{BeginsWith, cells_of, cells_of-cons, cells_of-nil, cells_of_front, front_begins, front_cases, front_differs, front_joins, front_stays, front_twice, maximal_front, same_first, segments_are}

-- only the last of them meets the others
pub before_last : (xs : List SegmentView) (t : SegmentView) (rest : List SegmentView) → put_before
    (xs ++ t ∷ []) rest ≡ xs ++ put_front t rest
before_last [] t rest = refl
before_last (x ∷ []) t rest = refl
before_last (x ∷ y ∷ xs) t rest = ap (λ ts. x ∷ ts) (before_last (y ∷ xs) t rest)

-- the segment before the last keeps its place, as a swap of the last two needs
pub before_last_two : (xs : List SegmentView) (u t : SegmentView) (rest : List SegmentView) → put_before
    (xs ++ u ∷ t ∷ []) rest ≡ xs ++ u ∷ put_front t rest
before_last_two [] u t rest = refl
before_last_two (x ∷ []) u t rest = refl
before_last_two (x ∷ y ∷ xs) u t rest = ap (λ ts. x ∷ ts) (before_last_two (y ∷ xs) u t rest)

-- with nothing after them they are as they were, as at the end of a pass
pub before_nothing : (xs : List SegmentView) → put_before xs [] ≡ xs
before_nothing [] = refl
before_nothing (x ∷ []) = refl
before_nothing (x ∷ y ∷ xs) = ap (λ ts. x ∷ ts) (before_nothing (y ∷ xs))

-- one more of them
pub before_one_more : (out : List SegmentView) (s : SegmentView) (rest : List SegmentView) → put_before
    (put_before out (s ∷ [])) rest ≡ put_before out (put_front s rest)
before_one_more [] s rest = refl
before_one_more (t ∷ []) s rest = elim (front_cases t.owner (s ∷ [])) [
  | inl differ ↦ ap (λ ts. put_before ts rest) (front_stays t (s ∷ []) differ)
      ∙ sym (front_differs t s rest differ)
  | inr with ↦
      (let same = same_first t.owner s [] with in ap (λ ts. put_before ts rest)
      (front_joins t s [] same)
      ∙ sym (front_twice t s rest same))
]
before_one_more (t ∷ u ∷ ts) s rest = some_more (put_before (u ∷ ts) (s ∷ [])) (not_empty u ts)
    (before_one_more (u ∷ ts) s rest)
  where
    not_empty : (u : SegmentView) (ts : List SegmentView) → (v : SegmentView) × (vs : List SegmentView) ×
        (put_before (u ∷ ts) (s ∷ []) ≡ v ∷ vs)
    not_empty u [] = (let with = front_begins u (s ∷ []) in (with.first, with.rest, with.is))
    not_empty u (w ∷ ts) = (u, put_before (w ∷ ts) (s ∷ []), refl)

    some_more : (ys : List SegmentView) → (v : SegmentView) × (vs : List SegmentView) × (ys ≡ v ∷ vs)
        → put_before ys rest ≡ put_before (u ∷ ts) (put_front s rest)
        → put_before (t ∷ ys) rest ≡ t ∷ put_before (u ∷ ts) (put_front s rest)
    some_more ys some e = ap (λ zs. put_before (t ∷ zs) rest) some.2 ∙ ap (λ zs. t ∷ zs)
        (ap (λ zs. put_before zs rest) (sym some.2) ∙ e)

-- the rest after it some segments
pub maximal_append : (start : ℕ) (xs : List SegmentView) (middle : ℕ) (ts : List SegmentView) (end : ℕ)
    → AreMaximal start xs middle → AreMaximal middle ts end → AreMaximal start (put_before xs ts) end
maximal_append start [] middle ts end m m' = subst (λ n. AreMaximal n ts end) (sym m) m'
maximal_append start (t ∷ []) middle ts end m m' = maximal_front start t ts end m.0
    (subst (λ n. AreMaximal n ts end) (sym m.2) m')
maximal_append start (t ∷ u ∷ xs) middle ts end m m' =
    let rest = maximal_append t.end (u ∷ xs) middle ts end m.2 m' in
    (m.0, begins_other t u xs ts m.1, rest)
  where
    begins_other : (t u : SegmentView) (xs ts : List SegmentView) → t.owner ≢ u.owner → BeginsOther t.owner
        (put_before (u ∷ xs) ts)
    begins_other t u [] ts differ = (let with = front_begins u ts in subst (BeginsOther t.owner) (sym with.is)
        (λ same. differ (same ∙ sym with.same)))
    begins_other t u (x ∷ xs) ts differ = differ

-- the last of some segments
pub last_of : (t : SegmentView) (ts : List SegmentView)
    → (xs : List SegmentView) × (u : SegmentView) × (t ∷ ts ≡ xs ++ u ∷ [])
last_of t [] = ([], t, refl)
last_of t (u ∷ ts) = (let rest = last_of u ts in (t ∷ rest.0, rest.1, ap (λ us. t ∷ us) rest.2))

-- segments whose views are in two parts
pub record InParts (ss : List Segment) (xs ys : List SegmentView) : Type 0 where
  pub front : List Segment
  pub bs : List Segment
  pub is : ss ≡ front ++ bs
  pub first : map segment_view front ≡ xs
  pub second : map segment_view bs ≡ ys

-- an equation on views as an equation on the segments themselves, so that writes by index can be read off
pub in_parts : (ss : List Segment) (xs ys : List SegmentView) → map segment_view ss ≡ xs ++ ys
    → InParts ss xs ys
in_parts ss [] ys e = record { front = []; bs = ss; is = refl; first = refl; second = e }
in_parts [] (x ∷ xs) ys e = absurd cc
in_parts (s ∷ ss) (x ∷ xs) ys e =
    let here : segment_view s ≡ x = cc in
    let there : map segment_view ss ≡ xs ++ ys = cc in
    let rest = in_parts ss xs ys there in
    record {
      front = s ∷ rest.front;
      bs = rest.bs;
      is = ap (λ ts. s ∷ ts) rest.is;
      first = cc;
      second = rest.second;
    }

-- segments that end with one
pub record LastOne (ss : List Segment) (xs : List SegmentView) (t : SegmentView) : Type 0 where
  pub front : List Segment
  pub b : Segment
  pub is : ss ≡ front ++ b ∷ []
  pub first : map segment_view front ≡ xs
  pub last : segment_view b ≡ t

-- segments that end with one, where it is last
pub last_one : (ss : List Segment) (xs : List SegmentView) (t : SegmentView)
    → map segment_view ss ≡ xs ++ t ∷ []
    → LastOne ss xs t
last_one ss xs t e = let parts = in_parts ss xs
    (t ∷ []) e in of_parts parts.front parts.bs parts.is parts.first parts.second
  where
    of_parts : (fs bs : List Segment) → ss ≡ fs ++ bs → map segment_view fs ≡ xs
        → map segment_view bs ≡ t ∷ []
        → LastOne ss xs t
    of_parts fs [] is first second = absurd cc
    of_parts fs (b ∷ []) is first second = record { front = fs; b = b; is = is; first = first; last = cc }
    of_parts fs (b ∷ c ∷ bs) is first second = absurd cc

-- a write to the last place, as `push_segment` makes it, changes the last view alone
pub set_last : (ss : List Segment) (xs : List SegmentView) (t : SegmentView) (i : ℕ) (s : Segment)
    → map segment_view ss ≡ xs ++ t ∷ [] → i + 1 ≡ length ss
    → map segment_view (set ss i s) ≡ xs ++ segment_view s ∷ []
set_last ss xs t i s e last =
    let one = last_one ss xs t e in
    let at : i ≡ length one.front =
    omega (arith, ap length one.is, length-append one.front (one.b ∷ []), last) in
    ap (map segment_view) (ap (λ n. set ss n s) at ∙ ap (λ ts. set ts (length one.front) s) one.is
    ∙ set-append_seam one.front one.b [] s)
    ∙ map-append segment_view one.front (s ∷ []) ∙ ap (λ us. us ++ segment_view s ∷ []) one.first

-- where the last isn't of the next one's owner, that comes after it
pub appends : (out : List SegmentView) (s : SegmentView) → (EndsWithOwner out s.owner → ⊥)
    → out ++ s ∷ [] ≡ put_before out (s ∷ [])
appends [] s other = refl
appends (o ∷ out) s other =
    let last = last_of o out in
    by_front last.0 last.1 last.2 (front_cases last.1.owner (s ∷ []))
  where
    by_front : (xs : List SegmentView) (t : SegmentView) → o ∷ out ≡ xs ++ t ∷ [] → BeginsOther t.owner
        (s ∷ []) ⊎ BeginsWith t.owner (s ∷ []) → (o ∷ out) ++ s ∷ [] ≡ put_before (o ∷ out) (s ∷ [])
    by_front xs t is (inl differ) =
        ap (λ ts. ts ++ s ∷ []) is ∙ append_assoc xs (t ∷ []) (s ∷ []) ∙ ap (λ ts. xs ++ ts)
        (sym (front_stays t (s ∷ []) differ))
        ∙ sym (before_last xs t (s ∷ [])) ∙ ap (λ ts. put_before ts (s ∷ [])) (sym is)
    by_front xs t is (inr with) = absurd (other
        (record { before = xs; last = t; is = is; same = same_first t.owner s [] with }))

-- the next segment takes the last one's place where the two have one owner
pub replaces : (out : List SegmentView) (s : SegmentView) (with : EndsWithOwner out s.owner)
    → with.before ++ s ∷ [] ≡ put_before out (s ∷ [])
replaces out s with =
    ap (λ ts. with.before ++ ts) (sym (front_joins with.last s [] with.same)) ∙ sym
    (before_last with.before with.last (s ∷ [])) ∙ ap (λ ts. put_before ts (s ∷ [])) (sym with.is)

-- an end has a last one
pub some_end : (ss : List Segment) (o : Option ℕ) → EndsWithOwner (map segment_view ss) o → 1 ≤ length ss
some_end ss o with = omega (
  arith,
  length-map ss segment_view,
  ap length with.is,
  length-append with.before
      (with.last ∷ []),
)

-- what is appended adds its cells
cells_put : (start : ℕ) (xs : List SegmentView) (end n : ℕ) (s : SegmentView) → AreMaximal start xs end
    → 0 < n → s.end ≡ end + n
    → cells_of start (put_before xs (s ∷ [])) ≡ cells_of start xs ++ replicate n s.owner
cells_put start [] end n s m some e =
    let size : s.end - start ≡ n = omega (arith, m) in
    cells_of-cons start s []
    ∙ ap (λ cells. replicate (s.end - start) s.owner ++ cells) (cells_of-nil s.end)
    ∙ append-nil (replicate (s.end - start) s.owner) ∙ ap (λ k. replicate k s.owner) size
    ∙ ap (λ cells. cells ++ replicate n s.owner) (sym (cells_of-nil start))
cells_put start (t ∷ []) end n s m some e =
    cells_of_front start t (s ∷ []) s.end (omega (arith, m.0)) (omega (arith, m.2), tt, refl)
    ∙ ap (λ cells. replicate (t.end - start) t.owner ++ cells) (cells_put t.end [] end n s m.2 some e)
    ∙ sym (append_assoc (replicate (t.end - start) t.owner) (cells_of t.end []) (replicate n s.owner))
    ∙ ap (λ cells. cells ++ replicate n s.owner) (sym (cells_of-cons start t []))
cells_put start (t ∷ u ∷ ts) end n s m some e =
    cells_of-cons start t (put_before (u ∷ ts) (s ∷ []))
    ∙ ap (λ cells. replicate (t.end - start) t.owner ++ cells) (cells_put t.end (u ∷ ts) end n s m.2 some e)
    ∙ sym (append_assoc (replicate (t.end - start) t.owner) (cells_of t.end (u ∷ ts)) (replicate n s.owner))
    ∙ ap (λ cells. cells ++ replicate n s.owner) (sym (cells_of-cons start t (u ∷ ts)))

-- a run of cells is appended to those of the segments
pub cells_appended : (old new : List Segment) (end n : ℕ) (o : Option ℕ)
    → AreMaximal 0 (map segment_view old) end
    → 0 < n
    → map segment_view new ≡ put_before (map segment_view old) (record { owner = o; end = end + n } ∷ [])
    → cells_from 0 new ≡ cells_from 0 old ++ replicate n o
cells_appended old new end n o m some is =
    segments_are 0 new ∙ ap (cells_of 0) is
    ∙ cells_put 0 (map segment_view old) end n (record { owner = o; end = end + n }) m some refl
    ∙ ap (λ cells. cells ++ replicate n o) (sym (segments_are 0 old))

-- appended segments stay maximal
pub maximal_appended : (old new : List Segment) (end n : ℕ) (o : Option ℕ)
    → AreMaximal 0 (map segment_view old) end → 0 < n
    → map segment_view new ≡ put_before (map segment_view old) (record { owner = o; end = end + n } ∷ [])
    → AreMaximal 0 (map segment_view new) (end + n)
maximal_appended old new end n o m some is =
    subst (λ ts. AreMaximal 0 ts (end + n)) (sym is)
    (maximal_append 0 (map segment_view old) end (record { owner = o; end = end + n } ∷ []) (end + n) m
    (omega arith, tt, refl))

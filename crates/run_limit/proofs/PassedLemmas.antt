-- How many of a row's segments a tick has passed, and which owner the row has there.
use Rattle.std.proofs.Common.{◌≡◌, ◌≢◌, ◌⊎◌, ℕ, zero, suc, ◌+◌, ◌-◌, ◌<◌, ◌≤◌, List, [], ◌∷◌, ◌++◌, length, replicate, Option, Some, inl, inr, refl, ap, subst, sym, ◌∙◌, arith, zero-add}
use Rattle.std.specs.Prelude.{slice_get}
use Rattle.std.proofs.lemmas.Bool.{cases_eq, cases_lt, le-leb, lt-leb}
use Rattle.std.proofs.lemmas.Option.{same_Some}
use Rattle.tab_core.specs.declared.TheConstants.{ROUND}
use Rattle.table_form.specs.Tables.Rows.{Row}
use Rattle.table_form.specs.Tables.Segments.{AreMaximal, SegmentView, segments_from}
use Rattle.table_form.specs.Tables.Serves.{cell_of, flat, owner_at}
use Rattle.table_form.proofs.RowLemmas.{cell_here}
use Rattle.table_form.proofs.SegmentLemmas.{cells_of, cells_of-cons, cells_of_segments, maximal_end, maximal_of_row}
use Rattle.run_limit.specs.Inside.Walks.{passed}

-- a segment that ends at the tick or before it counts
passed_on : (t : SegmentView) (ts : List SegmentView) (x : ℕ) → t.end ≤ x → passed (t ∷ ts) x ≡ passed ts x + 1
passed_on t ts x le = rw (le-leb t.end x le) refl

-- at one that ends after the tick the count stops
passed_not : (t : SegmentView) (ts : List SegmentView) (x : ℕ) → x < t.end → passed (t ∷ ts) x ≡ 0
passed_not t ts x lt = rw (lt-leb t.end x lt) refl

-- a later tick has passed no fewer
pub passed_more : (ts : List SegmentView) (x y : ℕ) → x ≤ y → passed ts x ≤ passed ts y
passed_more [] x y le = omega arith
passed_more (t ∷ ts) x y le = elim (cases_lt x t.end) [
  | inl lt ↦ omega (arith, passed_not t ts x lt)
  | inr past ↦ omega (arith, passed_on t ts x past, passed_on t ts y (omega arith), passed_more ts x y le)
]

-- a tick before the end is in a segment
pub passed_inside : (start : ℕ) (ts : List SegmentView) (end x : ℕ) → AreMaximal start ts end → start ≤ x
    → x < end → passed ts x < length ts
passed_inside start [] end x m low lt = absurd (omega (arith, m))
passed_inside start (t ∷ ts) end x m low lt = elim (cases_lt x t.end) [
  | inl before ↦ omega (arith, passed_not t ts x before)
  | inr past ↦ omega (arith, passed_on t ts x past, passed_inside t.end ts end x m.2 past lt)
]

-- each segment ends after the start
pub ends_after : (start : ℕ) (ts : List SegmentView) (end i : ℕ) (t : SegmentView) → AreMaximal start ts end
    → slice_get ts i ≡ Some t → start < t.end
ends_after start [] end i t m at = absurd cc
ends_after start (u ∷ ts) end zero t m at =
    (let same : u.end ≡ t.end = ap (λ (s : SegmentView). s.end) (same_Some u t at) in let lt = m.0 in omega arith)
ends_after start (u ∷ ts) end (suc i) t m at =
    (let lt = m.0 in let rest = ends_after u.end ts end i t m.2 at in omega arith)

-- each segment ends no later than the end
pub ends_within : (start : ℕ) (ts : List SegmentView) (end i : ℕ) (t : SegmentView) → AreMaximal start ts end
    → slice_get ts i ≡ Some t → t.end ≤ end
ends_within start [] end i t m at = absurd cc
ends_within start (u ∷ ts) end zero t m at =
    let same : u.end ≡ t.end = ap (λ (s : SegmentView). s.end) (same_Some u t at) in
    let le = maximal_end u.end ts end m.2 in omega arith
ends_within start (u ∷ ts) end (suc i) t m at = ends_within u.end ts end i t m.2 at

-- a segment that is counted ends at the tick or before it
pub passed_ends : (ts : List SegmentView) (i x : ℕ) (t : SegmentView) → slice_get ts i ≡ Some t
    → i < passed ts x → t.end ≤ x
passed_ends [] i x t at lt = absurd cc
passed_ends (u ∷ ts) zero x t at lt = elim (cases_lt x u.end) [
  | inl before ↦ absurd (omega (arith, passed_not u ts x before))
  | inr past ↦ (let same : u.end ≡ t.end = ap (λ (s : SegmentView). s.end) (same_Some u t at) in omega arith)
]
passed_ends (u ∷ ts) (suc i) x t at lt = elim (cases_lt x u.end) [
  | inl before ↦ absurd (omega (arith, passed_not u ts x before))
  | inr past ↦ passed_ends ts i x t at (omega (arith, passed_on u ts x past))
]

-- one that ends at the tick or before it is counted
pub passed_over : (start : ℕ) (ts : List SegmentView) (end i x : ℕ) (t : SegmentView) → AreMaximal start ts end
    → slice_get ts i ≡ Some t → t.end ≤ x → i < passed ts x
passed_over start [] end i x t m at le = absurd cc
passed_over start (u ∷ ts) end zero x t m at le =
    let same : u.end ≡ t.end = ap (λ (s : SegmentView). s.end) (same_Some u t at) in
    omega (arith, passed_on u ts x (omega arith))
passed_over start (u ∷ ts) end (suc i) x t m at le =
    let later = ends_after u.end ts end i t m.2 at in
    omega (arith, passed_on u ts x (omega arith), passed_over u.end ts end i x t m.2 at le)

-- at the start none is passed
passed_start : (start : ℕ) (ts : List SegmentView) (end : ℕ) → AreMaximal start ts end → passed ts start ≡ 0
passed_start start [] end m = refl
passed_start start (t ∷ ts) end m = passed_not t ts start m.0

-- at the first tick none of a row's is
pub none_passed : (row : Row) → passed (segments_from 0 row) 0 ≡ 0
none_passed row = passed_start 0 (segments_from 0 row) (0 + length row) (maximal_of_row 0 row (0 + length row) refl)

-- at a segment's end those up to it are passed
pub passed_end : (start : ℕ) (ts : List SegmentView) (end i : ℕ) (t : SegmentView) → AreMaximal start ts end
    → slice_get ts i ≡ Some t → passed ts t.end ≡ i + 1
passed_end start [] end i t m at = absurd cc
passed_end start (u ∷ ts) end zero t m at =
    let same : u.end ≡ t.end = ap (λ (s : SegmentView). s.end) (same_Some u t at) in
    subst (λ (x : ℕ). passed (u ∷ ts) x ≡ 1) same
    (let e : passed (u ∷ ts) u.end ≡ 1 = omega (arith, passed_on u ts u.end (omega arith), passed_start u.end ts end m.2)
    in e)
passed_end start (u ∷ ts) end (suc i) t m at =
    let later = ends_after u.end ts end i t m.2 at in
    omega (arith, passed_on u ts t.end (omega arith), passed_end u.end ts end i t m.2 at)

-- a tick before the end of the segment that the tick before it is in is in it too
pub passed_same : (ts : List SegmentView) (i x y : ℕ) (t : SegmentView) → slice_get ts i ≡ Some t
    → passed ts x ≡ i → x ≤ y → y < t.end → passed ts y ≡ i
passed_same ts i x y t at is low lt = elim (cases_lt i (passed ts y)) [
  | inl over ↦ absurd (let le = passed_ends ts i y t at over in omega arith)
  | inr le ↦ (let more = passed_more ts x y low in omega arith)
]

-- before the end all segments but the last are passed
pub passed_last : (start : ℕ) (ts : List SegmentView) (end x : ℕ) → AreMaximal start ts end → start ≤ x
    → x + 1 ≡ end → passed ts x + 1 ≡ length ts
passed_last start [] end x m low is = absurd (omega (arith, m))
passed_last start (t ∷ []) end x m low is =
    let last : t.end ≡ end = m.2 in
    omega (arith, passed_not t [] x (omega arith))
passed_last start (t ∷ u ∷ ts) end x m low is =
    let next : t.end < end = (let a = m.2.0 in let b = maximal_end u.end ts end m.2.2 in omega arith) in
    omega (arith, passed_on t (u ∷ ts) x (omega arith), passed_last t.end (u ∷ ts) end x m.2 (omega arith) is)

-- after the cells of a run the others follow
pub cells_behind : (n t u : ℕ) (o : Option ℕ) (rest : Row) → t ≡ n + u
    → slice_get (replicate n o ++ rest) t ≡ slice_get rest u
cells_behind zero t u o rest e = ap (slice_get rest) (e ∙ zero-add u)
cells_behind (suc n) zero u o rest e = absurd (omega arith)
cells_behind (suc n) (suc t) u o rest e = cells_behind n t u o rest (omega arith)

-- the cell of a tick
abbrev cell : ℕ → List SegmentView → ℕ → Option (Option ℕ)
cell start ts x = slice_get (cells_of start ts) (x - start)

-- within the first segment
cell_first : (start : ℕ) (t : SegmentView) (ts : List SegmentView) (x : ℕ) → start ≤ x → x < t.end
    → cell start (t ∷ ts) x ≡ Some t.owner
cell_first start t ts x low lt =
    ap (λ (cells : Row). slice_get cells (x - start)) (cells_of-cons start t ts)
    ∙ cell_here (t.end - start) (x - start) t.owner (cells_of t.end ts) (omega arith)

-- after it
cell_later : (start : ℕ) (t : SegmentView) (ts : List SegmentView) (x : ℕ) → start < t.end → t.end ≤ x
    → cell start (t ∷ ts) x ≡ cell t.end ts x
cell_later start t ts x less le =
    ap (λ (cells : Row). slice_get cells (x - start)) (cells_of-cons start t ts)
    ∙ cells_behind (t.end - start) (x - start) (x - t.end) t.owner (cells_of t.end ts) (omega arith)

-- a tick has the owner of its segment
pub cell_passed : (start : ℕ) (ts : List SegmentView) (end i x : ℕ) (t : SegmentView) → AreMaximal start ts end
    → start ≤ x → slice_get ts i ≡ Some t → passed ts x ≡ i → cell start ts x ≡ Some t.owner
cell_passed start [] end i x t m low at is = absurd cc
cell_passed start (u ∷ ts) end zero x t m low at is = elim (cases_lt x u.end) [
  | inl before ↦
      cell_first start u ts x low before ∙ ap (λ (s : SegmentView). Some s.owner) (same_Some u t at)
  | inr past ↦ absurd (omega (arith, passed_on u ts x past))
]
cell_passed start (u ∷ ts) end (suc i) x t m low at is = elim (cases_lt x u.end) [
  | inl before ↦ absurd (omega (arith, passed_not u ts x before))
  | inr past ↦
      cell_later start u ts x m.0 past
      ∙ cell_passed u.end ts end i x t m.2 past at (omega (arith, passed_on u ts x past))
]

-- a segment ends there, and the next one has another owner
pub record IsNewSegment (start : ℕ) (ts : List SegmentView) (x : ℕ) : Type 0 where
  pub counts : passed ts x ≡ passed ts (x - 1) + 1
  pub was : Option ℕ
  pub owner : Option ℕ
  pub before : cell start ts (x - 1) ≡ Some was
  pub here : cell start ts x ≡ Some owner
  pub other : was ≢ owner

-- a tick is in the segment of the tick before it
pub record IsOldSegment (start : ℕ) (ts : List SegmentView) (x : ℕ) : Type 0 where
  pub counts : passed ts x ≡ passed ts (x - 1)
  pub same : cell start ts (x - 1) ≡ cell start ts x

-- it is one or the other
pub segment_cases : (start : ℕ) (ts : List SegmentView) (end x : ℕ) → AreMaximal start ts end → start < x
    → x < end → IsNewSegment start ts x ⊎ IsOldSegment start ts x
segment_cases start [] end x m low lt = absurd (omega (arith, m))
segment_cases start (t ∷ ts) end x m low lt = elim (cases_lt x t.end) [
  | inl inside ↦ inr (record {
    counts = passed_not t ts x inside ∙ sym (passed_not t ts (x - 1) (omega arith));
    same = cell_first start t ts (x - 1) (omega arith) (omega arith) ∙ sym (cell_first start t ts x (omega arith) inside);
  })
  | inr past ↦ elim (cases_eq x t.end) [
    | inl at ↦ inl (next ts m at)
    | inr ne ↦ elim (segment_cases t.end ts end x m.2 (omega arith) lt) [
      | inl new ↦ inl (record {
        counts = (let n = new.counts in omega (arith, passed_on t ts x past, passed_on t ts (x - 1) (omega arith)));
        was = new.was;
        owner = new.owner;
        before = cell_later start t ts (x - 1) m.0 (omega arith) ∙ new.before;
        here = cell_later start t ts x m.0 past ∙ new.here;
        other = new.other;
      })
      | inr old ↦ inr (record {
        counts = (let n = old.counts in omega (arith, passed_on t ts x past, passed_on t ts (x - 1) (omega arith)));
        same = cell_later start t ts (x - 1) m.0 (omega arith)
            ∙ (old.same ∙ sym (cell_later start t ts x m.0 past));
      })
    ]
  ]
]
  where
    next : (us : List SegmentView) → AreMaximal start (t ∷ us) end → x ≡ t.end → IsNewSegment start (t ∷ us) x
    next [] m at = absurd (omega (arith, m.2))
    next (u ∷ us) m at =
        let less : t.end < u.end = m.2.0 in
        record {
          counts = (let here : t.end ≤ x = omega arith in omega (
            arith,
            passed_on t (u ∷ us) x here,
            passed_not u us x (omega arith),
            passed_not t (u ∷ us) (x - 1) (omega arith),
          ));
          was = t.owner;
          owner = u.owner;
          before = cell_first start t (u ∷ us) (x - 1) (omega arith) (omega arith);
          here = cell_later start t (u ∷ us) x m.0 (omega arith) ∙ cell_first t.end u us x (omega arith) (omega arith);
          other = m.1;
        }

-- ---- a row among rows

-- what a row says of a place
pub owner_of : (rows : List Row) (d x : ℕ) (row : Row) (o : Option ℕ) → slice_get rows d ≡ Some row
    → slice_get row x ≡ Some o → owner_at rows d x ≡ o
owner_of rows d x row o at is = ap (λ (r : Option Row). cell_of r x) at ∙ ap flat is

-- a whole row's cells by its segments
pub row_cell : (row : Row) (x : ℕ) → slice_get row x ≡ cell 0 (segments_from 0 row) x
row_cell row x = ap (λ (cells : Row). slice_get cells x) (sym (cells_of_segments 0 row))
    ∙ ap (slice_get (cells_of 0 (segments_from 0 row))) (let same : x ≡ x - 0 = omega arith in same)

-- a whole row's segments are maximal
pub row_maximal : (row : Row) → length row ≡ ROUND → AreMaximal 0 (segments_from 0 row) ROUND
row_maximal row size = maximal_of_row 0 row ROUND (omega arith)

-- the owner of a tick is that of its segment
pub owner_passed : (rows : List Row) (d : ℕ) (row : Row) (i x : ℕ) (t : SegmentView) → slice_get rows d ≡ Some row
    → length row ≡ ROUND → slice_get (segments_from 0 row) i ≡ Some t → passed (segments_from 0 row) x ≡ i
    → owner_at rows d x ≡ t.owner
owner_passed rows d row i x t at size there is = owner_of rows d x row t.owner at
    (row_cell row x
    ∙ cell_passed 0 (segments_from 0 row) ROUND i x t (row_maximal row size) (omega arith) there is)

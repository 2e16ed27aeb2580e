-- Rows that are gone over one after another, and the stretches that they make.
use Rattle.std.proofs.Common.{◌≡◌, ◌≢◌, ℕ, zero, suc, ◌+◌, ◌<◌, ◌≤◌, Bool, true, false, List, [], ◌∷◌, drop, length, length-drop, get_or, get_or-set_same, get_or-set_other, set, take, Some, None, Option, ltb, inl, inr, refl, ap, sym, subst, ◌∙◌, arith}
use Rattle.std.specs.Prelude.{slice_get, ◌||◌, ◌&&◌}
use Rattle.std.proofs.lemmas.Bool.{cases_eq, cases_lt, eq-eqb, le-ltb, lt-ltb, or_right}
use Rattle.std.proofs.lemmas.List.{nil_from_length}
use Rattle.tab_core.proofs.Lists.{drop_next}
use Rattle.tab_core.specs.declared.TheConstants.{ROUND}
use Rattle.table_form.specs.Promises.Offered.{some_row_has}
use Rattle.table_form.specs.Tables.Rows.{RisesTo, Row, cells_from}
use Rattle.table_form.specs.declared.segment.Segment.{Segment}
use Rattle.table_form.specs.Tables.Serves.{is_cell_of, owner_at}
use Rattle.table_form.proofs.OfferedLemmas.{cell_is}
use Rattle.table_form.proofs.RowLemmas.{rises_none, rises_parts}
use Rattle.table_form.proofs.Search.{end_within}
use Rattle.table_form.proofs.Shapes.{IsAhead, ahead_here}
use Rattle.table_form.proofs.SpotLemmas.{owner_read}
use Rattle.run_counts.specs.declared.stretch.Stretch.{Stretch}
use Rattle.run_counts.specs.Inside.Sweeps.{IsToldIfShort, IsToldTo, has_so_far}
use Rattle.run_counts.specs.Stretches.{no_ticks, offered_to, stretch_at}
use Rattle.run_counts.proofs.SweepLemmas.{more_told, row_step, same_told, start_told}

-- before the place the row counts
counted : (a b : Bool) (x end : ℕ) → x < end → (a || (ltb x end && b)) ≡ (a || b)
counted a b x end lt = rw (lt-ltb x end lt) refl

-- from the place on it doesn't
uncounted : (a b : Bool) (x end : ℕ) → end ≤ x → (a || (ltb x end && b)) ≡ a
uncounted a b x end le = rw (le-ltb x end le) (or_false a)
  where
    or_false : (c : Bool) → (c || false) ≡ c
    or_false true = refl
    or_false false = refl

-- the segment at the index ends after its begin, where the next one begins
pub segment_rises : (ss : List Segment) (i begin : ℕ) (s : Segment) → i < length ss → s ≡ get_or ss i s
    → RisesTo begin (drop i ss) ROUND → (begin < s.end) × RisesTo s.end (drop (i + 1) ss) ROUND
segment_rises ss i begin s lt is rises = rises_parts begin s (drop (i + 1) ss) ROUND
    (subst (λ (xs : List Segment). RisesTo begin xs ROUND) (drop_next ss i s lt is) rises)

-- its end is in the round
pub segment_within : (ss : List Segment) (i : ℕ) (s : Segment) → i < length ss → s ≡ get_or ss i s
    → RisesTo 0 ss ROUND → s.end ≤ ROUND
segment_within ss i s lt is rises =
    let within = end_within 0 ss ROUND i s rises lt in
    let end = ap (λ (t : Segment). t.end) is in
    omega arith

-- after the last segment the round is over
pub segments_end : (ss : List Segment) (i begin : ℕ) → length ss ≤ i → RisesTo begin (drop i ss) ROUND
    → begin ≡ ROUND
segments_end ss i begin le rises = rises_none begin ROUND (subst (λ (xs : List Segment). RisesTo begin xs ROUND)
    (nil_from_length (drop i ss) (omega (arith, length-drop i ss))) rises)

-- its cells are its owner's
pub segment_cells : (rows : List Row) (core : ℕ) (row : Row) (ss : List Segment) (i x : ℕ) (s : Segment)
    → core < length rows → row ≡ get_or rows core row → cells_from 0 ss ≡ row
    → i < length ss → s ≡ get_or ss i s → IsAhead ss x i → x < s.end → owner_at rows core x ≡ s.owner
segment_cells rows core row ss i x s small at cells lt is ahead less =
    owner_read rows core x row s.owner small at
    (ap (λ (cs : Row). slice_get cs x) (sym cells) ∙ ahead_here ss x i s lt is ahead less)

-- where no row is gone over nothing is offered
pub none_told : (v : ℕ) → IsToldTo (some_row_has [] v) ROUND no_ticks
none_told v = start_told (some_row_has [] v) ROUND (λ x lt. refl)

-- all rows are the first so many
pub all_told : (rows : List Row) (n v : ℕ) (s : Stretch) → length rows ≤ n
    → IsToldTo (some_row_has (take n rows) v) ROUND s → IsToldTo (some_row_has rows v) ROUND s
all_told rows n v s le told = subst (λ (rs : List Row). IsToldTo (some_row_has rs v) ROUND s) (whole rows n le) told
  where
    whole : (rs : List Row) (m : ℕ) → length rs ≤ m → take m rs ≡ rs
    whole [] zero h = refl
    whole [] (suc m) h = refl
    whole (r ∷ rs) zero h = absurd (omega arith)
    whole (r ∷ rs) (suc m) h = ap (λ (xs : List Row). r ∷ xs) (whole rs m (omega arith))

-- a row of which nothing is gone over yet
pub row_begins : (rows : List Row) (core v : ℕ) (s : Stretch)
    → IsToldTo (some_row_has (take core rows) v) ROUND s → IsToldTo (has_so_far rows core 0 v) ROUND s
row_begins rows core v s told = same_told (some_row_has (take core rows) v) (has_so_far rows core 0 v) ROUND s
    (λ x lt. uncounted (some_row_has (take core rows) v x) (is_cell_of v (owner_at rows core x)) x 0 (omega arith))
    told

-- a row of which all is gone over
pub row_ends : (rows : List Row) (core v : ℕ) (s : Stretch) → core < length rows
    → IsToldTo (has_so_far rows core ROUND v) ROUND s
    → IsToldTo (some_row_has (take (core + 1) rows) v) ROUND s
row_ends rows core v s small told =
    same_told (has_so_far rows core ROUND v) (some_row_has (take (core + 1) rows) v) ROUND s
    (λ x lt. (let e : core + 1 ≡ suc core = omega arith in
    ap (λ (n : ℕ). some_row_has (take n rows) v x) e ∙ (row_step rows core v x small
    ∙ sym (counted (some_row_has (take core rows) v x) (is_cell_of v (owner_at rows core x)) x ROUND lt))))
    told

module _ (rows : List Row) (core v begin end : ℕ) (s : Stretch) (le : begin ≤ end) (within : end ≤ ROUND)
    (told : IsToldTo (has_so_far rows core begin v) ROUND s) where
  -- a tick outside the segment is offered as before
  outside : (x : ℕ) → (x < begin → ⊥) → end ≤ x → has_so_far rows core end v x ≡ has_so_far rows core begin v x
  outside x late high =
      uncounted (some_row_has (take core rows) v x) (is_cell_of v (owner_at rows core x)) x end high
      ∙ sym (uncounted (some_row_has (take core rows) v x) (is_cell_of v (owner_at rows core x)) x begin
      (omega arith))

  -- a tick before it, too
  earlier : (x : ℕ) → x < begin → has_so_far rows core end v x ≡ has_so_far rows core begin v x
  earlier x lt =
      counted (some_row_has (take core rows) v x) (is_cell_of v (owner_at rows core x)) x end (omega arith)
      ∙ sym (counted (some_row_has (take core rows) v x) (is_cell_of v (owner_at rows core x)) x begin lt)

  -- the segment is another's
  told_other : ((x : ℕ) → begin ≤ x → x < end → owner_at rows core x ≢ Some v)
      → IsToldTo (has_so_far rows core end v) ROUND s
  told_other other = same_told (has_so_far rows core begin v) (has_so_far rows core end v) ROUND s
      (λ x lt. elim (cases_lt x begin) [
        | inl early ↦ earlier x early
        | inr late ↦ elim (cases_lt x end) [
          | inr after ↦ outside x (λ h. omega arith) after
          | inl inside ↦ counted (some_row_has (take core rows) v x) (is_cell_of v (owner_at rows core x)) x
              end inside
              ∙ (no_last (some_row_has (take core rows) v x) (is_cell_of v (owner_at rows core x))
              (λ h. other x late inside (cell_is v (owner_at rows core x) h))
              ∙ sym (uncounted (some_row_has (take core rows) v x) (is_cell_of v (owner_at rows core x)) x
              begin late))
        ]
      ]) told
    where
      no_last : (a b : Bool) → (b ≡ true → ⊥) → (a || b) ≡ a
      no_last true b h = refl
      no_last false true h = absurd (h refl)
      no_last false false h = refl

  -- the segment is its own, and comes after those that are counted
  told_own : s.ticks ≤ begin → ((x : ℕ) → begin ≤ x → x < end → owner_at rows core x ≡ Some v)
      → IsToldTo (has_so_far rows core end v) ROUND (offered_to s begin end)
  told_own low own = more_told (has_so_far rows core begin v) (has_so_far rows core end v) begin end ROUND s
      told.tells low le within
      (λ x lt. earlier x (omega arith))
      (λ x after lt. earlier x lt ∙ told.rest x after (omega arith))
      (λ x after lt.
      counted (some_row_has (take core rows) v x) (is_cell_of v (owner_at rows core x)) x end lt
      ∙ or_right (some_row_has (take core rows) v x) (is_cell_of v (owner_at rows core x))
      (rw (own x after lt) (eq-eqb v v refl)))
      (λ x after lt. outside x (λ h. omega arith) after ∙ told.rest x (omega arith) lt)

-- the segment is its own: its stretch is lengthened, or is longer than the round from then on
own_told : (rows : List Row) (core v begin end : ℕ) (s t : Stretch) → begin ≤ end → end ≤ ROUND
    → IsToldIfShort (has_so_far rows core begin v) s
    → ((x : ℕ) → begin ≤ x → x < end → owner_at rows core x ≡ Some v)
    → (s.ticks ≤ begin → t ≡ offered_to s begin end) → (begin < s.ticks → ROUND < t.ticks)
    → IsToldIfShort (has_so_far rows core end v) t
own_told rows core v begin end s t le within told own offered late short = elim (cases_lt begin s.ticks) [
  | inl past ↦ absurd (let long = late past in omega arith)
  | inr low ↦ subst (IsToldTo (has_so_far rows core end v) ROUND) (sym (offered low))
      (told_own rows core v begin end s le within (told (omega arith)) low own)
]

-- the stretches once a segment is gone over
pub segment_told : (rows : List Row) (core v begin end n : ℕ) (was now : List Stretch) (t : Stretch)
    → begin ≤ end → end ≤ ROUND
    → ((x : ℕ) → begin ≤ x → x < end → owner_at rows core x ≡ Some v)
    → v < length was → now ≡ set was v t
    → ((stretch_at was v).ticks ≤ begin → t ≡ offered_to (stretch_at was v) begin end)
    → (begin < (stretch_at was v).ticks → ROUND < t.ticks)
    → ((u : ℕ) → u < n → IsToldIfShort (has_so_far rows core begin u) (stretch_at was u))
    → (u : ℕ) → u < n → IsToldIfShort (has_so_far rows core end u) (stretch_at now u)
segment_told rows core v begin end n was now t le within own small put offered late told u below =
    elim (cases_eq u v) [
      | inl same ↦ subst (λ (j : ℕ). IsToldIfShort (has_so_far rows core end j) (stretch_at now j)) (sym same)
          (subst (IsToldIfShort (has_so_far rows core end v))
          (sym (ap (λ (xs : List Stretch). stretch_at xs v) put ∙ get_or-set_same was v t no_ticks small))
          (own_told rows core v begin end (stretch_at was v) t le within
          (told v (subst (λ (j : ℕ). j < n) same below)) own offered late))
      | inr other ↦ subst (IsToldIfShort (has_so_far rows core end u))
          (sym (ap (λ (xs : List Stretch). stretch_at xs u) put ∙ get_or-set_other was v u t no_ticks other))
          (λ short. told_other rows core u begin end (stretch_at was u) le within (told u below short)
          (λ x after lt h. other (one_owner u v (owner_at rows core x) h (own x after lt))))
    ]
  where
    one_owner : (a b : ℕ) (o : Option ℕ) → o ≡ Some a → o ≡ Some b → a ≡ b
    one_owner a b o h g = cc

-- an idle segment lengthens none
pub idle_told : (rows : List Row) (core begin end n : ℕ) (was now : List Stretch) → begin ≤ end → end ≤ ROUND
    → ((x : ℕ) → begin ≤ x → x < end → owner_at rows core x ≡ None)
    → now ≡ was
    → ((u : ℕ) → u < n → IsToldIfShort (has_so_far rows core begin u) (stretch_at was u))
    → (u : ℕ) → u < n → IsToldIfShort (has_so_far rows core end u) (stretch_at now u)
idle_told rows core begin end n was now le within idle same told u below =
    subst (λ (xs : List Stretch). IsToldIfShort (has_so_far rows core end u) (stretch_at xs u)) (sym same)
    (λ short. told_other rows core u begin end (stretch_at was u) le within (told u below short)
    (λ x after lt h. nobody u (owner_at rows core x) h (idle x after lt)))
  where
    nobody : (a : ℕ) (o : Option ℕ) → o ≡ Some a → o ≡ None → ⊥
    nobody a o h g = cc

-- Where none of a core's vCPUs is ever on another core its row has as many spans as maximal segments.
use Rattle.std.proofs.Common.{◌≡◌, ◌⊎◌, ℕ, zero, suc, ◌+◌, ◌-◌, ◌<◌, ◌≤◌, List, [], ◌∷◌, ◌++◌, length, map, replicate, Option, Some, inl, inr, refl, ap, sym, ◌∙◌, arith}
use Rattle.std.specs.Prelude.{slice_get}
use Rattle.std.proofs.lemmas.Option.{same_Some}
use Rattle.tab_core.specs.declared.TheConstants.{ROUND}
use Rattle.table_form.specs.declared.segment.Segment.{Segment}
use Rattle.table_form.specs.Tables.Plans.{PlanView}
use Rattle.table_form.specs.Tables.Rows.{Row, cells_from}
use Rattle.table_form.specs.Tables.Segments.{AreMaximal, SegmentView, segment_view}
use Rattle.table_form.specs.Tables.Serves.{owner_at}
use Rattle.table_form.specs.Tables.Spots.{AreSpans, IsSpanEnd, SameSpot}
use Rattle.table_form.proofs.RowLemmas.{cell_here, cells-cons, cells-nil}
use Rattle.table_form.proofs.SegmentLemmas.{maximal_end}
use Rattle.run_limit.specs.Inside.Walks.{IsNobodyAway}
use Rattle.run_limit.proofs.PassedLemmas.{cells_behind, owner_of}

-- a cell of a run and others is the run's, or one of the others
cell_cases : (n x : ℕ) (o c : Option ℕ) (rest : Row) → slice_get (replicate n o ++ rest) x ≡ Some c
    → (o ≡ c) ⊎ ((y : ℕ) × (slice_get rest y ≡ Some c))
cell_cases zero x o c rest at = inr (x, at)
cell_cases (suc n) zero o c rest at = inl (same_Some {A = Option ℕ} o c at)
cell_cases (suc n) (suc x) o c rest at = cell_cases n x o c rest at

-- the owner of a cell is that of a segment
pub cell_owner : (start : ℕ) (ss : List Segment) (x : ℕ) (c : Option ℕ)
    → slice_get (cells_from start ss) x ≡ Some c
    → (k : ℕ) × (s : Segment) × (slice_get ss k ≡ Some s) × (s.owner ≡ c)
cell_owner start [] x c at = absurd (let is = ap (λ (cells : Row). slice_get cells x) (cells-nil start) in cc)
cell_owner start (s ∷ ss) x c at =
    let here : slice_get (replicate (s.end - start) s.owner ++ cells_from s.end ss) x ≡ Some c =
    ap (λ (cells : Row). slice_get cells x) (sym (cells-cons start s ss)) ∙ at in
    elim (cell_cases (s.end - start) x s.owner c (cells_from s.end ss) here) [
      | inl first ↦ (0, s, refl, first)
      | inr other ↦ (let rest = cell_owner s.end ss other.0 c other.1 in (suc rest.0, rest.1, rest.2, rest.3))
    ]

-- from the start on the row has the cells of the segments
abbrev pub IsAhead : Row → ℕ → List Segment → Type 0
IsAhead row start ss = (x : ℕ) → start ≤ x → slice_get row x ≡ slice_get (cells_from start ss) (x - start)

-- the first of the segments has the row up to its end
first_owner : (row : Row) (start : ℕ) (s : Segment) (ss : List Segment) (x : ℕ) → IsAhead row start (s ∷ ss)
    → start ≤ x → x < s.end → slice_get row x ≡ Some s.owner
first_owner row start s ss x ahead low lt =
    ahead x low
    ∙ (ap (λ (cells : Row). slice_get cells (x - start)) (cells-cons start s ss)
    ∙ cell_here (s.end - start) (x - start) s.owner (cells_from s.end ss) (omega arith))

-- the other segments have the row after the first one's end
ahead_next : (row : Row) (start : ℕ) (s : Segment) (ss : List Segment) → IsAhead row start (s ∷ ss)
    → start < s.end → IsAhead row s.end ss
ahead_next row start s ss ahead less x low =
    ahead x (omega arith)
    ∙ (ap (λ (cells : Row). slice_get cells (x - start)) (cells-cons start s ss)
    ∙ cells_behind (s.end - start) (x - start) (x - s.end) s.owner (cells_from s.end ss) (omega arith))

-- places with one owner are alike
alike_owners : (plan : PlanView) (c x y : ℕ) → IsNobodyAway plan c → owner_at plan.rows c x ≡ owner_at plan.rows c y
    → SameSpot plan c x y
alike_owners plan c x y home same = record {
  owner = same;
  away = λ v away. absurd (home x v away);
  back = λ v away. absurd (home y v away);
}

-- the first segment is a span
first_span : (plan : PlanView) (c start : ℕ) (row : Row) (s : Segment) (ss : List Segment) → IsNobodyAway plan c
    → slice_get plan.rows c ≡ Some row → AreMaximal start (map segment_view (s ∷ ss)) ROUND
    → IsAhead row start (s ∷ ss) → IsSpanEnd plan c start s.end
first_span plan c start row s ss home at maximal ahead =
    let less : start < s.end = maximal.0 in
    let owner : (x : ℕ) → start ≤ x → x < s.end → owner_at plan.rows c x ≡ s.owner =
    λ x low lt. owner_of plan.rows c x row s.owner at (first_owner row start s ss x ahead low lt) in
    record {
      after = less;
      within = maximal_end s.end (map segment_view ss) ROUND maximal.2;
      alike = λ x low lt. alike_owners plan c start x home
          (owner start (omega arith) less ∙ sym (owner x low lt));
      maximal = last ss maximal (ahead_next row start s ss ahead less) (owner start (omega arith) less);
    }
  where
    last : (ts : List Segment) → AreMaximal start (map segment_view (s ∷ ts)) ROUND → IsAhead row s.end ts
        → owner_at plan.rows c start ≡ s.owner → (s.end ≡ ROUND) ⊎ (SameSpot plan c start s.end → ⊥)
    last [] most next first = inl most.2
    last (t ∷ ts) most next first =
        inr (λ same.
        (let begin : s.end < t.end = most.2.0 in
        let second : owner_at plan.rows c s.end ≡ t.owner =
        owner_of plan.rows c s.end row t.owner at (first_owner row s.end t ts s.end next (omega arith) begin) in
        most.1 (sym first ∙ (same.owner ∙ second))))

-- each segment is a span
pub segments_are_spans : (plan : PlanView) (c start : ℕ) (row : Row) (ss : List Segment) → IsNobodyAway plan c
    → slice_get plan.rows c ≡ Some row → AreMaximal start (map segment_view ss) ROUND → IsAhead row start ss
    → AreSpans plan c start (map (λ (s : Segment). s.end) ss) ROUND
segments_are_spans plan c start row [] home at maximal ahead = maximal
segments_are_spans plan c start row (s ∷ ss) home at maximal ahead = (
  first_span plan c start row s ss home at maximal ahead,
  segments_are_spans plan c s.end row ss home at maximal.2 (ahead_next row start s ss ahead maximal.0),
)

-- maximal segments are no more than ticks
pub segments_few : (start : ℕ) (ts : List SegmentView) (end : ℕ) → AreMaximal start ts end
    → length ts + start ≤ end
segments_few start [] end maximal = omega (arith, maximal)
segments_few start (t ∷ ts) end maximal =
    (let rest = segments_few t.end ts end maximal.2 in let less : start < t.end = maximal.0 in omega arith)

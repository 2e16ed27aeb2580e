-- After a multiple of all periods the row repeats itself.
use Rattle.std.proofs.Common.{◌≡◌, ℕ, zero, suc, ◌+◌, ◌-◌, ◌*◌, ◌/◌, ◌<◌, ◌≤◌, List, [], ◌∷◌, ◌++◌, Option, length, map, get_or, refl, ap, subst, sym, ◌∙◌, inl, inr, arith, add-one, replicate, drop, append_assoc, length-append}
use Rattle.std.proofs.lemmas.Bool.{cases_lt}
use Rattle.std.proofs.lemmas.List.{append-nil, drop_all, map-append}
use Rattle.tab_core.specs.declared.TheConstants.{ROUND}
use Rattle.tab_core.specs.declared.piece.Piece.{Piece}
use Rattle.tab_core.proofs.Lists.{drop_next}
use Rattle.table_form.specs.Planning.EdfRow.{edf_cells, edf_row, owner_of}
use Rattle.table_form.specs.Planning.Jobs.{jobs_of}
use Rattle.table_form.specs.Planning.Windows.{DistinctVcpus}
use Rattle.table_form.specs.declared.segment.Segment.{Segment}
use Rattle.table_form.specs.Tables.Rows.{RisesTo, Row, cells_from}
use Rattle.table_form.specs.Tables.Segments.{AreMaximal, put_before, segment_view}
use Rattle.table_form.proofs.AppendingLemmas.{cells_appended, maximal_appended}
use Rattle.table_form.proofs.RowLemmas.{cells-cons, cells-nil, rises_none, rises_parts}
use Rattle.edf_table.specs.Inside.Progress.{IsCommonMultiple, MetBefore, cell}
use Rattle.edf_table.specs.Inside.Repetition.{so_often}
use Rattle.edf_table.proofs.Calm.{NoneReady}
use Rattle.edf_table.proofs.Cells.{edf_cells-suc, edf_cells-zero}
use Rattle.edf_table.proofs.Kept.{some_piece}
use Rattle.edf_table.proofs.Repeats.{Alike, alike_along, alike_start, anew_at, met_again, ready_alike, some_urgent, urgent_alike}
use Rattle.edf_table.proofs.Steps.{idle_cell_any}
use Rattle.edf_table.proofs.Turns.{urgent_cell}

-- no times, no cells
pub so_often-zero : (cells : Row) → so_often 0 cells ≡ []
unfolding so_often
so_often-zero cells = refl

-- once more
pub so_often-suc : (n : ℕ) (cells : Row) → so_often (n + 1) cells ≡ so_often n cells ++ cells
unfolding so_often
so_often-suc n cells = ap (λ k. so_often k cells) (add-one n)

-- so many times as many
pub length-so_often : (n : ℕ) (cells : Row) → length (so_often n cells) ≡ n * length cells
length-so_often zero cells = let none = ap length (so_often-zero cells) in omega arith
length-so_often (suc n) cells =
    let next : suc n ≡ n + 1 = omega arith in
    ap (λ k. length (so_often k cells)) next ∙ ap length (so_often-suc n cells)
    ∙ length-append (so_often n cells) cells ∙ (let before = length-so_often n cells in omega arith)

-- the segments that are left: the first one's end is above the start, and the others rise from it
pub left_rise : (ss : List Segment) (i start end : ℕ) (s : Segment) → i < length ss → s ≡ get_or ss i s
    → RisesTo start (drop i ss) end → (start < s.end) × RisesTo s.end (drop (i + 1) ss) end
left_rise ss i start end s lt at rises =
    rises_parts start s (drop (i + 1) ss) end
    (subst (λ (ts : List Segment). RisesTo start ts end) (drop_next ss i s lt at) rises)

-- what the segments that are left stand for begins with the first one's cells
pub left_cells : (ss : List Segment) (i start : ℕ) (s : Segment) → i < length ss → s ≡ get_or ss i s
    → cells_from start (drop i ss) ≡ replicate (s.end - start) s.owner ++ cells_from s.end (drop (i + 1) ss)
left_cells ss i start s lt at =
    ap (cells_from start) (drop_next ss i s lt at) ∙ cells-cons start s (drop (i + 1) ss)

-- each segment has at least one tick, so there are no more segments than ticks
pub segments_few : (start : ℕ) (ss : List Segment) (end : ℕ) → RisesTo start ss end → start + length ss ≤ end
segments_few start [] end rises = (let same = rises_none start end rises in omega arith)
segments_few start (s ∷ ss) end rises =
    (let parts = rises_parts start s ss end rises in let rest = segments_few s.end ss end parts.1 in
    omega (arith, parts.0))

-- those before the number have come to a row that had others up to the tick `begin`
pub record HaveCome (segments old row : List Segment) (begin number : ℕ) : Type 0 where
  pub start : ℕ
  pub rises : RisesTo start (drop number segments) (length (cells_from 0 segments))
  pub maximal : AreMaximal 0 (map segment_view row) (begin + start)
  pub cells : cells_from 0 row ++ cells_from start (drop number segments)
      ≡ cells_from 0 old ++ cells_from 0 segments

-- before the first
pub none_have_come : (segments row : List Segment) (begin : ℕ)
    → RisesTo 0 segments (length (cells_from 0 segments)) → AreMaximal 0 (map segment_view row) begin
    → HaveCome segments row row begin 0
none_have_come segments row begin rises maximal = record {
  start = 0;
  rises = rises;
  maximal = subst (AreMaximal 0 (map segment_view row)) (omega arith) maximal;
  cells = refl;
}

-- the next one comes
pub one_has_come : (segments old row new : List Segment) (begin number : ℕ) (s : Segment) (o : Option ℕ)
    → number < length segments → s ≡ get_or segments number s → o ≡ s.owner
    → map segment_view new ≡ put_before (map segment_view row) (record { owner = o; end = begin + s.end } ∷ [])
    → HaveCome segments old row begin number → HaveCome segments old new begin (number + 1)
one_has_come segments old row new begin number s o lt is own pushed come =
    let total = length (cells_from 0 segments) in
    let rises = left_rise segments number come.start total s lt is come.rises in
    let n = s.end - come.start in
    let some : 0 < n = omega (arith, rises.0) in
    let end : begin + s.end ≡ begin + come.start + n = omega (arith, rises.0) in
    let rest : Row = cells_from s.end (drop (number + 1) segments) in
    let at : map segment_view new
    ≡ put_before (map segment_view row) (record { owner = s.owner; end = begin + come.start + n } ∷ []) =
    pushed ∙ ap (λ e. put_before (map segment_view row) (record { owner = o; end = e } ∷ [])) end
    ∙ ap (λ u. put_before (map segment_view row) (record { owner = u; end = begin + come.start + n } ∷ [])) own in
    record {
      start = s.end;
      rises = rises.1;
      maximal = subst (AreMaximal 0 (map segment_view new)) (sym end)
          (maximal_appended row new (begin + come.start) n s.owner come.maximal some at);
      cells = ap (λ cells. cells ++ rest) (cells_appended row new (begin + come.start) n s.owner come.maximal some at)
          ∙ append_assoc (cells_from 0 row) (replicate n s.owner) rest
          ∙ ap (λ more. cells_from 0 row ++ more) (sym (left_cells segments number come.start s lt is))
          ∙ come.cells;
    }

-- once all have come
pub all_have_come : (segments old row : List Segment) (begin number : ℕ) → length segments ≤ number
    → HaveCome segments old row begin number
    → AreMaximal 0 (map segment_view row) (begin + length (cells_from 0 segments))
    × (cells_from 0 row ≡ cells_from 0 old ++ cells_from 0 segments)
all_have_come segments old row begin number past come =
    let none = drop_all number segments past in
    let end = rises_none come.start (length (cells_from 0 segments))
    (subst (λ (ts : List Segment). RisesTo come.start ts (length (cells_from 0 segments))) none come.rises) in (
      subst (λ e. AreMaximal 0 (map segment_view row) (begin + e)) (omega (arith, end)) come.maximal,
      sym (append-nil (cells_from 0 row))
          ∙ ap (λ cells. cells_from 0 row ++ cells)
          (sym (ap (cells_from come.start) none ∙ cells-nil come.start))
          ∙ come.cells,
    )

-- a shifted tick goes to the same vCPU
owner_alike : (ps : List Piece) (s x : ℕ) → DistinctVcpus ps → IsCommonMultiple ps (length ps) s
    → MetBefore (jobs_of ps) (x + 1) → s + x < ROUND → Alike ps s x
    → owner_of (cell (jobs_of ps) (s + x)) ≡ owner_of (cell (jobs_of ps) x)
owner_alike ps s x apart common met lt now =
    let again = met_again ps s x common met (omega arith) now in
    elim (some_urgent ps now.first x (length ps) (omega arith)) [
      | inl best ↦
          (let i = best.0 in
          let p = some_piece ps i best.1.in_range in
          let urgent = urgent_alike ps now.first now.second s x i common now.shifted best.1 in
          ap owner_of (urgent_cell ps now.second (s + x) i p apart now.counted_again again lt urgent)
          ∙ sym (ap owner_of (urgent_cell ps now.first x i p apart now.counted met (omega arith) best.1)))
      | inr none ↦
          (let unready : NoneReady ps now.second (s + x) =
          λ i d i-in. ready_alike ps now.first now.second s x i d common now.shifted i-in
          ∙ none i d i-in in
          ap owner_of (idle_cell_any ps now.second (s + x) now.counted_again again lt unready)
          ∙ sym (ap owner_of (idle_cell_any ps now.first x now.counted met (omega arith) none)))
    ]

-- the owners of the first n cells
abbrev owners : List Piece → ℕ → Row
owners ps n = map owner_of (edf_cells (jobs_of ps) n)

-- one cell more
owners-suc : (ps : List Piece) (n : ℕ)
    → owners ps (n + 1) ≡ owners ps n ++ owner_of (cell (jobs_of ps) n) ∷ []
owners-suc ps n =
    let next : n + 1 ≡ suc n = omega arith in
    ap (owners ps) next ∙ ap (map owner_of) (edf_cells-suc (jobs_of ps) n)
    ∙ map-append owner_of (edf_cells (jobs_of ps) n) (cell (jobs_of ps) n ∷ [])

-- the cells after the shift are those of the begin
owners_alike : (ps : List Piece) (s n : ℕ) → DistinctVcpus ps → IsCommonMultiple ps (length ps) s
    → MetBefore (jobs_of ps) (n + 1) → s + n ≤ ROUND → Alike ps s 0
    → owners ps (s + n) ≡ owners ps s ++ owners ps n
owners_alike ps s zero apart common met le now =
    let none : s + 0 ≡ s = omega arith in
    ap (owners ps) none ∙ sym (append-empty (owners ps s))
    ∙ ap (λ cells. owners ps s ++ map owner_of cells) (sym (edf_cells-zero (jobs_of ps)))
  where
    append-empty : (cells : Row) → cells ++ [] ≡ cells
    append-empty [] = refl
    append-empty (c ∷ cells) = ap (λ rest. c ∷ rest) (append-empty cells)
owners_alike ps s (suc n) apart common met le now =
    let met' : MetBefore (jobs_of ps) (n + 1) = λ j a lt. met j a (omega arith) in
    let before = owners_alike ps s n apart common met' (omega arith) now in
    let after = alike_along ps s n apart common met' (omega arith) now in
    let here = owner_alike ps s n apart common met' (omega arith) after in
    let at : s + suc n ≡ s + n + 1 = omega arith in
    let next : n + 1 ≡ suc n = omega arith in
    ap (owners ps) at ∙ owners-suc ps (s + n)
    ∙ ap (λ cells. cells ++ owner_of (cell (jobs_of ps) (s + n)) ∷ []) before
    ∙ append_assoc (owners ps s) (owners ps n) (owner_of (cell (jobs_of ps) (s + n)) ∷ [])
    ∙ ap (λ o. owners ps s ++ (owners ps n ++ o ∷ [])) here
    ∙ ap (λ cells. owners ps s ++ cells) (sym (owners-suc ps n))
    ∙ ap (λ k. owners ps s ++ owners ps k) next

-- the first k multiples of a part of the round
owners_repeat : (ps : List Piece) (h k : ℕ) → DistinctVcpus ps → IsCommonMultiple ps (length ps) h → 0 < h
    → h < ROUND → MetBefore (jobs_of ps) (h + 1) → k * h ≤ ROUND
    → so_often k (owners ps h) ≡ owners ps (k * h)
owners_repeat ps h zero apart common some lt met le =
    let none : 0 ≡ 0 * h = omega arith in
    so_often-zero (owners ps h) ∙ ap (map owner_of) (sym (edf_cells-zero (jobs_of ps)))
    ∙ ap (owners ps) none
owners_repeat ps h (suc k) apart common some lt met le =
    let s = k * h in
    let anew = anew_at ps h k apart common some lt met (omega arith) in
    let next : suc k ≡ k + 1 = omega arith in
    let at : s + h ≡ suc k * h = omega arith in
    ap (λ n. so_often n (owners ps h)) next ∙ so_often-suc k (owners ps h)
    ∙ ap (λ cells. cells ++ owners ps h)
    (owners_repeat ps h k apart common some lt met (omega arith))
    ∙ sym (owners_alike ps s h apart anew.common met (omega arith) (alike_start ps s apart anew))
    ∙ ap (owners ps) at

-- the row is the cells below a multiple of all periods, again and again
pub row_repeats : (ps : List Piece) (h : ℕ) → DistinctVcpus ps → IsCommonMultiple ps (length ps) h → 0 < h
    → h ≤ ROUND → ROUND / h * h ≡ ROUND → MetBefore (jobs_of ps) (h + 1)
    → so_often (ROUND / h) (map owner_of (edf_cells (jobs_of ps) h)) ≡ edf_row (jobs_of ps)
unfolding edf_row
row_repeats ps h apart common some small whole met = elim (cases_lt h ROUND) [
  | inl part ↦ owners_repeat ps h (ROUND / h) apart common some part met (omega arith)
      ∙ ap (owners ps) whole
  | inr all ↦
      (let end : h ≡ ROUND = omega arith in
      let one : ROUND / h ≡ 0 + 1 = ap (λ n. ROUND / n) end in
      ap (λ n. so_often n (owners ps h)) one ∙ so_often-suc 0 (owners ps h)
      ∙ ap (λ cells. cells ++ owners ps h) (so_often-zero (owners ps h))
      ∙ ap (owners ps) end)
]

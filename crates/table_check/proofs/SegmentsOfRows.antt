-- Segments that are the maximal ones of rows stand for these rows, and have good shapes where these are a
-- round long.
use Rattle.std.proofs.Common.{◌≡◌, ℕ, zero, suc, All, List, [], ◌∷◌, length, map, None, refl, sym, ap, subst, ◌∙◌, arith}
use Rattle.std.proofs.lemmas.List.Elements.{All-head, All-tail}
use Rattle.tab_core.specs.declared.TheConstants.{ROUND}
use Rattle.table_form.specs.Tables.Rows.{Row, cells_from}
use Rattle.table_form.specs.Tables.Segments.{AreMaximal, segment_view, segments_from}
use Rattle.table_form.specs.declared.segment.Segment.{Segment}
use Rattle.table_form.proofs.SegmentLemmas.{cells_of, cells_of_segments, maximal_of_row, no_bad_place, segments_are}
use Rattle.table_check.specs.Shapes.{bad_at, rows_of}

-- segments that are a row's maximal ones stand for it, so the rows are read back
pub rows_back : (raw : List (List Segment)) (rows : List Row)
    → map (λ row. map segment_view row) raw ≡ map (λ row. segments_from 0 row) rows → rows_of raw ≡ rows
rows_back [] [] same = refl
rows_back [] (row ∷ rows) same = absurd cc
rows_back (ss ∷ raw) [] same = absurd cc
rows_back (ss ∷ raw) (row ∷ rows) same =
    let first : map segment_view ss ≡ segments_from 0 row = cc in
    let rest : map (λ (segments : List Segment). map segment_view segments) raw
    ≡ map (λ (cells : Row). segments_from 0 cells) rows = cc in
    let here : cells_from 0 ss ≡ row =
    segments_are 0 ss ∙ ap (cells_of 0) first ∙ cells_of_segments 0 row in
    let behind = rows_back raw rows rest in
    cc

-- segments that stand for rows of a round make rows
pub good_shapes : (raw : List (List Segment)) (rows : List Row)
    → map (λ row. map segment_view row) raw ≡ map (λ row. segments_from 0 row) rows
    → All (λ (row : Row). length row ≡ ROUND) rows → (core : ℕ) → bad_at raw core ≡ None
good_shapes [] rows same rounds core = refl
good_shapes (ss ∷ raw) [] same rounds core = absurd cc
good_shapes (ss ∷ raw) (row ∷ rows) same rounds zero =
    let first : map segment_view ss ≡ segments_from 0 row = cc in
    let whole = All-head (λ (r : Row). length r ≡ ROUND) row rows rounds in
    no_bad_place 0 ss (subst (λ ts. AreMaximal 0 ts ROUND) (sym first)
    (maximal_of_row 0 row ROUND (omega (arith, whole))))
good_shapes (ss ∷ raw) (row ∷ rows) same rounds (suc core) =
    let rest : map (λ (segments : List Segment). map segment_view segments) raw
    ≡ map (λ (cells : Row). segments_from 0 cells) rows = cc in
    good_shapes raw rows rest (All-tail (λ (r : Row). length r ≡ ROUND) row rows rounds) core

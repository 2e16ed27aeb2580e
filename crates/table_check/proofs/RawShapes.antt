-- The rows of the first cores, whose shapes are good.
use Rattle.std.proofs.Common.{◌≡◌, ℕ, ◌+◌, ◌<◌, ◌≤◌, List, [], ◌∷◌, ◌++◌, length, get_or, take, slice_get, Some, None, ap, sym, ◌∙◌, inl, inr, arith, add-one, take-suc}
use Rattle.std.proofs.lemmas.Bool.{cases_eq, cases_lt}
use Rattle.std.proofs.lemmas.List.{get_or-map, length-map, map-append}
use Rattle.std.proofs.lemmas.Option.{slice_get-get_or, slice_get_past}
use Rattle.table_form.specs.declared.segment.Segment.{Segment}
use Rattle.tab_core.specs.declared.TheConstants.{ROUND}
use Rattle.table_form.specs.Tables.Rows.{RisesTo, bad_place, cells_from}
use Rattle.table_form.proofs.Shapes.{rises_if_good}
use Rattle.table_check.specs.Shapes.{HaveGoodShapes, bad_at, bad_in, rows_of}

-- the first core's shapes are good, and so is that of the next one
pub good_more : (raw : List (List Segment)) (core : ℕ) (segments : List Segment)
    → slice_get raw core ≡ Some segments → bad_place 0 segments ≡ None
    → ((lower : ℕ) → lower < core → bad_at raw lower ≡ None) → (lower : ℕ) → lower < core + 1
    → bad_at raw lower ≡ None
good_more raw core segments at good before lower lt = elim (cases_eq lower core) [
  | inl same ↦ ap (bad_at raw) same ∙ ap bad_in at ∙ good
  | inr other ↦ before lower (omega arith)
]

-- after the last core all shapes are good
pub good_all : (raw : List (List Segment)) (count : ℕ) → length raw ≤ count
    → ((lower : ℕ) → lower < count → bad_at raw lower ≡ None) → HaveGoodShapes raw
good_all raw count all good core = elim (cases_lt core count) [
  | inl lt ↦ good core lt
  | inr past ↦ ap bad_in (slice_get_past raw core (omega arith))
]

-- one core's row more
pub rows_more : (raw : List (List Segment)) (core : ℕ) (segments : List Segment) → core < length raw
    → segments ≡ get_or raw core segments
    → rows_of (take (core + 1) raw) ≡ rows_of (take core raw) ++ cells_from 0 segments ∷ []
rows_more raw core segments lt at =
    rw (add-one core) (ap rows_of (take-suc raw core segments lt
    ∙ ap (λ (s : List Segment). take core raw ++ s ∷ []) (sym at))
    ∙ map-append (cells_from 0) (take core raw) (segments ∷ []))

-- the segments of a core rise where the shapes are good, as a sweep over them needs
pub rises_at : (raw : List (List Segment)) (core : ℕ) (segments : List Segment) → HaveGoodShapes raw
    → core < length raw → segments ≡ get_or raw core segments → RisesTo 0 segments ROUND
rises_at raw core segments good lt is =
    rises_if_good 0 segments (sym (ap bad_in (slice_get-get_or raw core segments lt ∙ ap Some (sym is)))
    ∙ good core)

-- a core's row by its segments
pub row_here : (raw : List (List Segment)) (core : ℕ) (segments : List Segment) → core < length raw
    → segments ≡ get_or raw core segments
    → cells_from 0 segments ≡ get_or (rows_of raw) core (cells_from 0 segments)
row_here raw core segments lt is =
    ap (cells_from 0) is ∙ sym (get_or-map (cells_from 0) raw core segments (cells_from 0 segments) lt)

-- there are as many rows as cores
pub length-rows_of : (raw : List (List Segment)) → length (rows_of raw) ≡ length raw
length-rows_of raw = length-map raw (cells_from 0)

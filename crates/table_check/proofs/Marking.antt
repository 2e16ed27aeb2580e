-- Rows whose ticks are marked one row after the other are apart.
use Rattle.std.proofs.Common.{◌≡◌, ℕ, ◌+◌, ◌<◌, ◌≤◌, false, true, List, length, get_or, slice_get, Option, Some, refl, ap, sym, ◌∙◌, inl, inr, arith}
use Rattle.std.proofs.lemmas.Bool.{cases_eq, cases_lt}
use Rattle.std.proofs.lemmas.Option.{same_Some, slice_get-get_or, slice_get-map, slice_get_within}
use Rattle.std.specs.Option.{option_map}
use Rattle.tab_core.specs.declared.TheConstants.{ROUND}
use Rattle.table_form.specs.declared.segment.Segment.{Segment}
use Rattle.table_form.specs.Tables.Rows.{Row, RisesTo, cells_from}
use Rattle.table_form.specs.Tables.Serves.{Apart, cell_of, owner_at}
use Rattle.table_form.proofs.RowLemmas.{length-cells_from}
use Rattle.table_form.proofs.SpotLemmas.{owner_within, flat_some}
use Rattle.table_check.specs.Inside.Marks.{IsNewMark, KeepsMarks, MarksRow, is_marked}
use Rattle.table_check.specs.Shapes.{rows_of}
use Rattle.table_check.proofs.RawShapes.{length-rows_of}
use Rattle.table_check.proofs.Sweep.{GoesOnFrom, owner_now}

-- a tick that isn't marked now wasn't before
pub was_free : (old new : List ℕ) (v x : ℕ) → KeepsMarks old new → is_marked new v x ≡ false
    → is_marked old v x ≡ false
was_free old new v x kept free = elim (is_marked old v x) as (λ b. is_marked old v x ≡ b → is_marked old v x ≡ false) [
  | true ↦ λ was. absurd (let still = kept v x was in cc)
  | false ↦ λ is. is
] refl

-- no row is marked yet
pub none_marked : (row : Row) (marks : List ℕ) → MarksRow row 0 marks marks
none_marked row marks v x low at = absurd (omega arith)

-- a row whose next segment is marked too
pub row_more : (ss : List Segment) (from place : ℕ) (s : Segment) (old marks new : List ℕ)
    → GoesOnFrom ss from place → place < length ss → s ≡ get_or ss place s
    → KeepsMarks old marks → KeepsMarks marks new
    → ((v x : ℕ) → s.owner ≡ Some v → from ≤ x → x < s.end → IsNewMark marks new v x)
    → MarksRow (cells_from 0 ss) from old marks → MarksRow (cells_from 0 ss) s.end old new
row_more ss from place s old marks new on lt at before kept marked row v x low cell = elim (cases_lt x from) [
  | inl early ↦ let was = row v x early cell in record { was = was.was; now = kept v x was.now }
  | inr late ↦
      let own : s.owner ≡ Some v =
      same_Some {A = Option ℕ} s.owner (Some v) (sym (owner_now ss from place x s on lt at late low) ∙ cell) in
      let mark = marked v x own late low in
      record { was = was_free old marks v x before mark.was; now = mark.now }
]

-- the rows below this core are apart, and their ticks are marked
pub record AreApartBelow (rows : List Row) (core : ℕ) (marks : List ℕ) : Type 0 where
  pub marked : (v x c : ℕ) → c < core → owner_at rows c x ≡ Some v → is_marked marks v x ≡ true
  pub apart : (v x c d : ℕ) → c < core → d < core → owner_at rows c x ≡ Some v → owner_at rows d x ≡ Some v
      → c ≡ d

-- no row is there yet
pub none_apart : (rows : List Row) (marks : List ℕ) → AreApartBelow rows 0 marks
none_apart rows marks = record {
  marked = λ v x c low owned. absurd (omega arith);
  apart = λ v x c d low lower here there. absurd (omega arith);
}

-- an owner in a core's row is that of a cell of its segments
cell_here : (raw : List (List Segment)) (core v x c : ℕ) (ss : List Segment) → core < length raw
    → ss ≡ get_or raw core ss → c ≡ core → owner_at (rows_of raw) c x ≡ Some v
    → slice_get (cells_from 0 ss) x ≡ Some (Some v)
cell_here raw core v x c ss lt is same owned =
    let at : slice_get (rows_of raw) core ≡ Some (cells_from 0 ss) =
    slice_get-map (cells_from 0) raw core
    ∙ ap (option_map (cells_from 0)) (slice_get-get_or raw core ss lt ∙ ap Some (sym is)) in
    flat_some (slice_get (cells_from 0 ss) x) v
    (sym (ap (λ k. owner_at (rows_of raw) k x) same ∙ ap (λ row. cell_of row x) at) ∙ owned)

-- a core's row more, whose ticks were marked
pub core_more : (raw : List (List Segment)) (core : ℕ) (ss : List Segment) (marks new : List ℕ)
    → RisesTo 0 ss ROUND → core < length raw → ss ≡ get_or raw core ss
    → AreApartBelow (rows_of raw) core marks → KeepsMarks marks new
    → MarksRow (cells_from 0 ss) ROUND marks new → AreApartBelow (rows_of raw) (core + 1) new
core_more raw core ss marks new rises lt is below kept row =
    let newly : (v x c : ℕ) → c ≡ core → owner_at (rows_of raw) c x ≡ Some v → IsNewMark marks new v x =
    λ v x c same owned.
    let cell = cell_here raw core v x c ss lt is same owned in
    let within = slice_get_within (cells_from 0 ss) x (Some v) cell in
    row v x (omega (arith, within, length-cells_from 0 ss ROUND rises)) cell in
    let other : (v x c d : ℕ) → c ≡ core → d < core → owner_at (rows_of raw) c x ≡ Some v
    → owner_at (rows_of raw) d x ≡ Some v → ⊥ =
    λ v x c d same low here there.
    let free = (newly v x c same here).was in
    let taken = below.marked v x d low there in
    cc in
    record {
      marked = λ v x c low owned. elim (cases_eq c core) [
        | inl same ↦ (newly v x c same owned).now
        | inr ne ↦ kept v x (below.marked v x c (omega arith) owned)
      ];
      apart = λ v x c d low lower here there. elim (cases_eq c core) [
        | inl same ↦ elim (cases_eq d core) [
          | inl as_well ↦ same ∙ sym as_well
          | inr ne ↦ absurd (other v x c d same (omega arith) here there)
        ]
        | inr ne ↦ elim (cases_eq d core) [
          | inl as_well ↦ absurd (other v x d c as_well (omega arith) there here)
          | inr neither ↦ below.apart v x c d (omega arith) (omega arith) here there
        ]
      ];
    }

-- after the last core all rows are apart
pub apart_rows : (raw : List (List Segment)) (count : ℕ) (marks : List ℕ) → length raw ≤ count
    → AreApartBelow (rows_of raw) count marks → Apart (rows_of raw)
apart_rows raw count marks all below v x c d here there =
    let size = length-rows_of raw in
    below.apart v x c d (omega (arith, size, owner_within (rows_of raw) c x v here))
    (omega (arith, size, owner_within (rows_of raw) d x v there)) here there

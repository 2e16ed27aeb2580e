-- Segments of which no three may be swapped, whatever the pieces are.
use Rattle.std.proofs.Common.{◌≡◌, ℕ, suc, ◌+◌, ◌-◌, ◌<◌, ◌≤◌, List, [], ◌∷◌, length, map, slice_get, get_or, Some, refl, ap, sym, subst, ◌∙◌, inl, inr, arith}
use Rattle.std.proofs.lemmas.Bool.{cases_lt}
use Rattle.std.proofs.lemmas.Option.{same_Some, slice_get-get_or, slice_get_within}
use Rattle.tab_core.specs.declared.TheConstants.{ROUND}
use Rattle.tab_core.specs.declared.piece.Piece.{Piece}
use Rattle.table_form.specs.Tables.Rows.{RisesTo, Row, cells_from}
use Rattle.table_form.specs.Tables.Segments.{AreMaximal, SegmentView, segment_view, segments_from}
use Rattle.table_form.specs.declared.segment.Segment.{Segment}
use Rattle.table_form.proofs.RowLemmas.{length-cells_from}
use Rattle.table_form.proofs.SegmentLemmas.{maximal_of_row}
use Rattle.coalesce.specs.Joining.{CanSwap, NoSwap}

-- no pieces let the segments be swapped
abbrev pub CannotSwap : ℕ → Segment → Segment → Segment → Type 0
CannotSwap sliver x y z = (pieces : List Piece)
    → CanSwap pieces sliver (segment_view x) (segment_view y) (segment_view z) → ⊥

-- the three neighbours from the place on may not be swapped
abbrev pub NoneAt : ℕ → List Segment → ℕ → Type 0
NoneAt sliver segments k = (x y z : Segment) → slice_get segments k ≡ Some x
    → slice_get segments (suc k) ≡ Some y → slice_get segments (suc (suc k)) ≡ Some z → CannotSwap sliver x y z

-- no three neighbours before the number may be swapped
abbrev pub NoneBefore : ℕ → List Segment → ℕ → Type 0
NoneBefore sliver segments number = (k : ℕ) → suc (suc k) < number → NoneAt sliver segments k

-- equal segments may be swapped alike
can_moved : (pieces : List Piece) (sliver : ℕ) (x y z u v w : SegmentView) → x ≡ u → y ≡ v → z ≡ w
    → CanSwap pieces sliver x y z → CanSwap pieces sliver u v w
can_moved pieces sliver x y z u v w a b c can =
    subst (λ s. CanSwap pieces sliver s v w) a
    (subst (λ s. CanSwap pieces sliver x s w) b (subst (CanSwap pieces sliver x y) c can))

-- where none of the whole row may be swapped, the row is quiet
pub none_swap : (pieces : List Piece) (sliver : ℕ) (segments : List Segment)
    → ((k : ℕ) → NoneAt sliver segments k) → NoSwap pieces sliver (map segment_view segments)
none_swap pieces sliver [] none [] after x y z is can = cc
none_swap pieces sliver (a ∷ []) none [] after x y z is can = cc
none_swap pieces sliver (a ∷ b ∷ []) none [] after x y z is can = cc
none_swap pieces sliver (a ∷ b ∷ c ∷ rest) none [] after x y z is can =
    none 0 a b c refl refl refl pieces (can_moved pieces sliver x y z (segment_view a) (segment_view b)
    (segment_view c) (cc) (cc) (cc) can)
none_swap pieces sliver [] none (w ∷ before) after x y z is can = cc
none_swap pieces sliver (a ∷ rest) none (w ∷ before) after x y z is can =
    none_swap pieces sliver rest (λ k. none (suc k)) before after x y z (cc) can

-- what is at a place is one segment
same_at : (segments : List Segment) (i k : ℕ) (x u : Segment) → i ≡ k → k < length segments
    → x ≡ get_or segments i x → slice_get segments k ≡ Some u → x ≡ u
same_at segments i k x u same lt is at =
    is ∙ ap (λ n. get_or segments n x) same
    ∙ same_Some (get_or segments k x) u (sym (slice_get-get_or segments k x lt) ∙ at)

-- three more neighbours that may not be swapped
pub one_more_none : (sliver : ℕ) (segments : List Segment) (at : ℕ) (x y z : Segment)
    → 2 ≤ at → at < length segments
    → x ≡ get_or segments (at - 2) x → y ≡ get_or segments (at - 1) y → z ≡ get_or segments at z
    → CannotSwap sliver x y z → NoneBefore sliver segments at → NoneBefore sliver segments (at + 1)
one_more_none sliver segments at x y z two lt is_x is_y is_z cannot before k below u v w at_u at_v at_w =
    elim (cases_lt (suc (suc k)) at) [
      | inl earlier ↦ before k earlier u v w at_u at_v at_w
      | inr last ↦
          let first = same_at segments (at - 2) k x u (omega arith) (omega arith) is_x at_u in
          let second = same_at segments (at - 1) (suc k) y v (omega arith) (omega arith) is_y at_v in
          let third = same_at segments at (suc (suc k)) z w (omega arith) (omega arith) is_z at_w in
          subst (λ s. CannotSwap sliver s v w) first
          (subst (λ s. CannotSwap sliver x s w) second (subst (CannotSwap sliver x y) third cannot))
    ]

-- once all neighbours have come, the row is quiet
pub all_none : (pieces : List Piece) (sliver : ℕ) (segments : List Segment) (at : ℕ) → length segments ≤ at
    → NoneBefore sliver segments at → NoSwap pieces sliver (map segment_view segments)
all_none pieces sliver segments at past before = none_swap pieces sliver segments
    (λ k x y z at_x at_y at_z. before k (let there = slice_get_within segments (suc (suc k)) z at_z in omega arith)
    x y z at_x at_y at_z)

-- a row's segments are maximal up to the round
pub row_maximal : (row : Row) (segments : List Segment) → RisesTo 0 segments ROUND → cells_from 0 segments ≡ row
    → map segment_view segments ≡ segments_from 0 row → AreMaximal 0 (map segment_view segments) ROUND
row_maximal row segments rises cells maximal =
    let size = length-cells_from 0 segments ROUND rises in
    let same = ap length cells in
    let whole : length row ≡ ROUND = omega arith in
    subst (λ ts. AreMaximal 0 ts ROUND) (sym maximal) (maximal_of_row 0 row ROUND (omega (arith, whole)))

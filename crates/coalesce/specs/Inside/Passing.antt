-- What the pass over a row keeps while it joins slivers.
use Rattle.std.specs.Prelude.{◌≡◌, ℕ, ◌<◌, Bool, List, [], ◌∷◌, ◌++◌, Option, Some, length, slice_get}
use Rattle.tab_core.specs.declared.TheConstants.{MAX_VCPUS, ROUND}
use Rattle.tab_core.specs.declared.piece.Piece.{Piece}
use Rattle.table_form.specs.Tables.Segments.{put_before, AreMaximal, SegmentView}
use Rattle.coalesce.specs.Joining.{CanSwap, NoSwap, SwapsTo, given_sliver}

-- the table has the piece of each vCPU that has one here
pub record IsPieceTableOf (pieces : List Piece) (table : List (Option Piece)) : Type 0 where
  pub size : length table ≡ MAX_VCPUS
  pub listed : (v : ℕ) (p : Piece) → slice_get table v ≡ Some (Some p)
      → (p.vcpu ≡ v) × (at : ℕ) × (slice_get pieces at ≡ Some p)
  pub complete : (at : ℕ) (p : Piece) → slice_get pieces at ≡ Some p → slice_get table p.vcpu ≡ Some (Some p)

-- segments up to a tick, and the rest of the row from there; the last of the first may join the
-- first of the rest
pub record StandInRow (out rest : List SegmentView) : Type 0 where
  pub reached : ℕ
  pub before : AreMaximal 0 out reached
  pub after : AreMaximal reached rest ROUND

-- no three of the segments in `out` may be swapped, and leftmost swaps lead from the row to these
-- and the rest
pub record IsPassed (pieces : List Piece) (sliver : ℕ) (row out rest : List SegmentView) : Type 0 where
  pub quiet : NoSwap pieces sliver out
  pub leads : (end : List SegmentView) → SwapsTo pieces sliver end (put_before out rest)
      → SwapsTo pieces sliver end row

-- the last two of the segments may be swapped with the next
pub record CanSwapLast (pieces : List Piece) (sliver : ℕ) (out : List SegmentView)
    (next : SegmentView) : Type 0 where
  pub before : List SegmentView
  pub x : SegmentView
  pub y : SegmentView
  pub is : out ≡ before ++ x ∷ y ∷ []
  pub can : CanSwap pieces sliver x y next

-- the segments end below the tick
pub record EndBelow (out : List SegmentView) (tick : ℕ) : Type 0 where
  pub reached : ℕ
  pub maximal : AreMaximal 0 out reached
  pub below : reached < tick

-- the segments, each with the owner that it is given; `x` is the segment before these
abbrev pub given_all : (ℕ → Bool) → ℕ → SegmentView → List SegmentView → List SegmentView
given_all may_grow sliver x [] = []
given_all may_grow sliver x (y ∷ rest) = given_sliver may_grow sliver x y ∷ given_all may_grow sliver y rest

-- Joining of slivers on one core: short segments are moved together, and short idle ones are given away.
-- Source: the coalescing of allocations too short to be of use in M. Vanga, A. Gujarati, B. B.
-- Brandenburg, "Tableau: a high-throughput and predictable VM scheduler for high-density
-- workloads", EuroSys 2018; the two rules are this project's own.
use Rattle.std.specs.Prelude.{◌≡◌, ℕ, ◌+◌, ◌-◌, ◌*◌, ◌<◌, ◌==◌, ◌&&◌, Bool, false, not, nat_lt, if◌then◌else◌, List, [], ◌∷◌, ◌++◌, Option, Some, None, count_by, length, slice_get}
use Rattle.tab_core.specs.VcpuSets.{has_vcpu}
use Rattle.tab_core.specs.declared.piece.Piece.{Piece}
use Rattle.table_form.specs.Planning.Drafts.{pieces_at}
use Rattle.table_form.specs.Tables.Rows.{Row}
use Rattle.table_form.specs.Tables.Segments.{SegmentView, put_front, segments_from}

-- no window of the vCPU's piece has this edge, its begin or its end, strictly between the two ticks
abbrev pub NoEdge : (Piece → ℕ) → List Piece → ℕ → ℕ → ℕ → Type 0
NoEdge edge pieces vcpu low high = (at k : ℕ) (p : Piece) → slice_get pieces at ≡ Some p → p.vcpu ≡ vcpu →
    low < k * p.period + edge p → k * p.period + edge p < high → ⊥

-- the third of three neighbours may come before the second: the first and the third are of one
-- vCPU, the second is a short one of another vCPU, and strictly between the second's begin and the
-- third's end no window of the first vCPU begins and none of the second vCPU ends
pub record CanSwap (pieces : List Piece) (sliver : ℕ) (x y z : SegmentView) : Type 0 where
  pub first : ℕ
  pub second : ℕ
  pub first_owns : x.owner ≡ Some first
  pub second_owns : y.owner ≡ Some second
  pub first_again : z.owner ≡ Some first
  pub short : y.end - x.end < sliver
  pub no_begin : NoEdge (λ p. p.from) pieces first x.end z.end
  pub no_end : NoEdge (λ p. p.to) pieces second x.end z.end

-- no three neighbours may be swapped
abbrev pub NoSwap : List Piece → ℕ → List SegmentView → Type 0
NoSwap pieces sliver row = (before after : List SegmentView) (x y z : SegmentView)
    → row ≡ before ++ x ∷ y ∷ z ∷ after → CanSwap pieces sliver x y z → ⊥

-- the first takes the third's ticks after its own, and the second comes after them, before what
-- followed
abbrev pub swapped : SegmentView → SegmentView → SegmentView → List SegmentView → List SegmentView
swapped x y z after =
    record { owner = x.owner; end = x.end + (z.end - y.end) }
    ∷ put_front (record { owner = y.owner; end = z.end }) after

-- swaps, one after the other, until none is left, each at the leftmost place: no three neighbours
-- further left may be swapped
pub data SwapsTo (pieces : List Piece) (sliver : ℕ) (end : List SegmentView) : List SegmentView → Type 0 where
  Done : NoSwap pieces sliver end → SwapsTo pieces sliver end end
  Again : (row before after : List SegmentView) (x y z : SegmentView) → row ≡ before ++ x ∷ y ∷ z ∷ after
      → CanSwap pieces sliver x y z → NoSwap pieces sliver (before ++ x ∷ y ∷ [])
      → SwapsTo pieces sliver end (before ++ swapped x y z after) → SwapsTo pieces sliver end row

-- the second is idle and short, and the one before it is of a vCPU that may have more
abbrev pub is_given : (ℕ → Bool) → ℕ → Option ℕ → Option ℕ → ℕ → Bool
is_given may_grow sliver (Some v) None ticks = nat_lt ticks sliver && may_grow v
is_given may_grow sliver before own ticks = false

-- a segment, with the owner of the one before it where it is given to that
abbrev pub given_sliver : (ℕ → Bool) → ℕ → SegmentView → SegmentView → SegmentView
given_sliver may_grow sliver x y =
    if is_given may_grow sliver x.owner y.owner (y.end - x.end) then record y { owner = x.owner } else y

-- each short idle segment goes to the vCPU before it, if that may have more; `x` is the segment before these
abbrev pub filled_after : (ℕ → Bool) → ℕ → SegmentView → List SegmentView → List SegmentView
filled_after may_grow sliver x [] = []
filled_after may_grow sliver x (y ∷ rest) =
    put_front (given_sliver may_grow sliver x y) (filled_after may_grow sliver y rest)

-- no vCPU is before the first segment
abbrev pub filled : (ℕ → Bool) → ℕ → List SegmentView → List SegmentView
filled may_grow sliver row = filled_after may_grow sliver (record { owner = None; end = 0 }) row

-- the row after both rules: first the swaps, and then the idle segments that are given away
pub record IsJoined (pieces : List Piece) (may_grow : ℕ → Bool) (sliver : ℕ) (row joined : Row) : Type 0 where
  pub end : List SegmentView
  pub swaps : SwapsTo pieces sliver end (segments_from 0 row)
  pub fills : segments_from 0 joined ≡ filled may_grow sliver end

-- the vCPU has one piece over all cores, and no more
abbrev pub has_single_piece : List Piece → ℕ → Bool
has_single_piece pieces vcpu = count_by (λ p. p.vcpu == vcpu) pieces == 1

-- the vCPU may have more ticks than its cost: it has a single piece, and doesn't run in its slots alone
abbrev pub may_have_more : List Piece → List Bool → ℕ → Bool
may_have_more pieces capped vcpu = has_single_piece pieces vcpu && not (has_vcpu capped vcpu)

-- the rows of a plan after joining, core by core
pub record AreJoined (pieces : List Piece) (capped : List Bool) (sliver : ℕ)
    (rows joined : List Row) : Type 0 where
  pub size : length joined ≡ length rows
  pub each : (core : ℕ) (row new : Row) → slice_get rows core ≡ Some row → slice_get joined core ≡ Some new
      → IsJoined (pieces_at pieces core) (may_have_more pieces capped) sliver row new

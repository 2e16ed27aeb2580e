-- What swaps keep: the segments stay maximal, and there are fewer of them.
use Rattle.std.proofs.Common.{◌≡◌, ℕ, ◌+◌, ◌-◌, ◌<◌, ◌≤◌, List, [], ◌∷◌, ◌++◌, length, refl, ap, subst, sym, ◌∙◌, inl, inr, arith, length-append}
use Rattle.tab_core.specs.declared.piece.Piece.{Piece}
use Rattle.table_form.specs.Tables.Segments.{AreMaximal, BeginsOther, SegmentView, put_front}
use Rattle.coalesce.specs.Joining.{CanSwap, SwapsTo, swapped}
use Rattle.coalesce.specs.Joining.SwapsTo.{Again, Done}
use Rattle.table_form.proofs.SegmentLemmas.{front_begins, front_cases, front_joins, front_stays, maximal_front, same_first}

-- one swap of a row
pub record IsSwap (pieces : List Piece) (sliver : ℕ) (row next : List SegmentView) : Type 0 where
  pub before : List SegmentView
  pub x : SegmentView
  pub y : SegmentView
  pub z : SegmentView
  pub after : List SegmentView
  pub row_is : row ≡ before ++ x ∷ y ∷ z ∷ after
  pub can : CanSwap pieces sliver x y z
  pub next_is : next ≡ before ++ swapped x y z after

-- the conditions of a swap make it one
pub swap_of : (pieces : List Piece) (sliver : ℕ) (row before after : List SegmentView) (x y z : SegmentView)
    → row ≡ before ++ x ∷ y ∷ z ∷ after → CanSwap pieces sliver x y z
    → IsSwap pieces sliver row (before ++ swapped x y z after)
swap_of pieces sliver row before after x y z is can =
    record { before = before; x = x; y = y; z = z; after = after; row_is = is; can = can; next_is = refl }

-- some of the segments and the rest of them
pub record Parts (start : ℕ) (xs : List SegmentView) (y : SegmentView) (ys : List SegmentView)
    (end : ℕ) : Type 0 where
  pub middle : ℕ
  pub second : AreMaximal middle (y ∷ ys) end
  pub instead : (z : SegmentView) (zs : List SegmentView) (end' : ℕ) → z.owner ≡ y.owner
      → AreMaximal middle (z ∷ zs) end'
      → AreMaximal start (xs ++ z ∷ zs) end'

-- each place divides the row so
pub parts_of : (start : ℕ) (xs : List SegmentView) (y : SegmentView) (ys : List SegmentView) (end : ℕ)
    → AreMaximal start
    (xs ++ y ∷ ys) end → Parts start xs y ys end
parts_of start [] y ys end m = record { middle = start; second = m; instead = λ z zs end' same m'. m' }
parts_of start (x ∷ []) y ys end m =
    record { middle = x.end; second = m.2; instead = λ z zs end' same m'. (m.0, λ e. m.1 (e ∙ same), m') }
parts_of start (x ∷ w ∷ xs) y ys end m =
    let rest = parts_of x.end (w ∷ xs) y ys end m.2 in
    record {
      middle = rest.middle;
      second = rest.second;
      instead = λ z zs end' same m'.
          (m.0, m.1, rest.instead z zs end' same m');
    }

-- the first two of a swap have different owners
pub swap_differs : (pieces : List Piece) (sliver : ℕ) (start : ℕ) (x y z : SegmentView)
    (after : List SegmentView) (end : ℕ)
    → AreMaximal start (x ∷ y ∷ z ∷ after) end → CanSwap pieces sliver x y z
    → AreMaximal start (swapped x y z after) end
swap_differs pieces sliver start x y z after end m can =
    let t : SegmentView = record { owner = y.owner; end = z.end } in
    let first : SegmentView = record { owner = x.owner; end = x.end + (z.end - y.end) } in
    let with = front_begins t after in
    let rest = maximal_front first.end t after end (omega (arith, m.2.0, m.2.2.0)) m.2.2.2 in
    (omega (arith, m.0), subst (BeginsOther x.owner) (sym with.is) (λ same. m.1 (same ∙ sym with.same)), rest)

-- one swap keeps the row maximal
pub swap_keeps : (pieces : List Piece) (sliver : ℕ) (start end : ℕ) (row next : List SegmentView)
    → IsSwap pieces sliver row next → AreMaximal start row end → AreMaximal start next end
swap_keeps pieces sliver start end row next swap m =
    let parts = parts_of start swap.before swap.x (swap.y ∷ swap.z ∷ swap.after) end
    (subst (λ ts. AreMaximal start ts end) swap.row_is m) in
    subst (λ ts. AreMaximal start ts end) (sym swap.next_is)
    (parts.instead _ _ end refl
    (swap_differs pieces sliver parts.middle swap.x swap.y swap.z swap.after end parts.second swap.can))

-- all swaps keep the row maximal
pub swaps_keep : (pieces : List Piece) (sliver : ℕ) (start bound : ℕ) (end row : List SegmentView)
    → SwapsTo pieces sliver end row → AreMaximal start row bound → AreMaximal start end bound
swaps_keep pieces sliver start bound end _ (Done quiet) m = m
swaps_keep pieces sliver start bound end _ (Again row before after x y z is can left swaps) m =
    swaps_keep pieces sliver start bound end (before ++ swapped x y z after) swaps
    (swap_keeps pieces sliver start bound row (before ++ swapped x y z after)
    (swap_of pieces sliver row before after x y z is can) m)

-- a segment before others adds at most one
pub front_length : (s : SegmentView) (ts : List SegmentView) → length (put_front s ts) ≤ length ts + 1
front_length s [] = omega arith
front_length s (t ∷ ts) = elim (front_cases s.owner (t ∷ ts)) [
  | inl other ↦ rw (front_stays s (t ∷ ts) other) (omega arith)
  | inr with ↦ rw (front_joins s t ts (same_first s.owner t ts with)) (omega arith)
]

-- one swap takes a segment away, since the third joins the first
pub swap_shortens : (pieces : List Piece) (sliver : ℕ) (row next : List SegmentView)
    → IsSwap pieces sliver row next → length next < length row
swap_shortens pieces sliver row next swap =
    let t : SegmentView = record { owner = swap.y.owner; end = swap.z.end } in
    omega (
      arith,
      ap length swap.row_is,
      ap length swap.next_is,
      length-append swap.before (swap.x ∷ swap.y ∷ swap.z ∷ swap.after),
      length-append swap.before (swapped swap.x swap.y swap.z swap.after),
      front_length t swap.after,
    )

-- all swaps leave no more segments, and there is an end of them
pub swaps_shorten : (pieces : List Piece) (sliver : ℕ) (end row : List SegmentView)
    → SwapsTo pieces sliver end row
    → length end ≤ length row
swaps_shorten pieces sliver end _ (Done quiet) = omega arith
swaps_shorten pieces sliver end _ (Again row before after x y z is can left swaps) =
    let next = before ++ swapped x y z after in
    let swap = swap_of pieces sliver row before after x y z is can in
    omega (arith, swap_shortens pieces sliver row next swap, swaps_shorten pieces sliver end next swaps)

-- Lanes that are filled side by side are the lanes.
use Rattle.std.proofs.Common.{arith, refl, sym, take_all, ◌∙◌, ◌≡◌, ◌≤◌, ◌<◌, ◌+◌, ℕ, zero, suc, List, [], length, take}
use Rattle.std.proofs.Math.Seq.{take-suc}
use Rattle.std.specs.Prelude.{slice_index_or}
use Rattle.view_doc.specs.declared.view.Stretch.{Stretch}
use Rattle.view_lanes.specs.Shown.{lane_bars, lanes_below}
use Rattle.view_lanes.specs.declared.frame.Bar.{Bar}
use Rattle.view_lanes.specs.declared.frame.Frame.{Frame}

-- lists that have each the bars of their lane are the lanes
front_lanes : (f : Frame) (stretches : List Stretch) (first : ℕ) (lanes : List (List Bar)) (n : ℕ) → n ≤ length lanes
    → ((i : ℕ) → i < n → slice_index_or lanes i [] ≡ lane_bars f stretches (first + i))
    → take n lanes ≡ lanes_below f stretches first n
front_lanes f stretches first lanes zero few each = refl
front_lanes f stretches first lanes (suc n) few each =
    let less = front_lanes f stretches first lanes n (omega (arith, few)) (λ i low. each i (omega (arith, low))) in
    let last = each n (omega arith) in
    let more = take-suc lanes n [] (omega (arith, few)) in
    rw (more, less, last) refl

pub all_lanes : (f : Frame) (stretches : List Stretch) (first n : ℕ) (lanes : List (List Bar)) → length lanes ≡ n
    → ((i : ℕ) → i < n → slice_index_or lanes i [] ≡ lane_bars f stretches (first + i))
    → lanes ≡ lanes_below f stretches first n
all_lanes f stretches first n lanes count each =
    sym (take_all n lanes (omega (arith, count))) ∙ front_lanes f stretches first lanes n (omega (arith, count)) each

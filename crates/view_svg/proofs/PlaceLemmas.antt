-- Where boxes are, and how high columns are.
use Rattle.std.proofs.Common.{arith, refl, ap, ◌∙◌, ◌≡◌, ℕ, ◌+◌, ◌-◌, ◌*◌, ◌/◌, ◌<◌, ◌≤◌, ◌⊎◌, inl, inr, true, false, List, [], ◌∷◌, ◌++◌, max, min}
use Rattle.std.proofs.Math.Nat.{div-le_of_le-mul, div-mul-le_self}
use Rattle.std.proofs.lemmas.Bool.Decides.{nat_tests}
use Rattle.std.proofs.lemmas.Grind.{flat_map-append}
use Rattle.std.proofs.lemmas.Nat.{le-div, mul-le}
use Rattle.std.specs.Prelude.{◌&&◌, nat_lt}
use Rattle.tab_core.specs.declared.TheConstants.{ROUND}
use Rattle.view_doc.specs.declared.view.Stretch.{Stretch}
use Rattle.view_doc.specs.declared.view.Use.TheVariants.{Slot}
use Rattle.view_svg.proofs.ColumnLemmas.{sum_more}
use Rattle.view_svg.specs.Columns.{level_of}
use Rattle.view_svg.specs.Frames.{x_at}
use Rattle.view_lanes.specs.Columns.{column_ticks, width_at}
use Rattle.view_lanes.specs.Shown.{bars_in, held_bars, is_on_lane, key_of, lane_bars}
use Rattle.view_lanes.specs.declared.frame.Bar.{Bar}
use Rattle.view_lanes.specs.declared.frame.Frame.{Frame}

-- with at least as many units as ticks a later tick has a greater place
later_place : (d e span units : ℕ) → 0 < span → span ≤ units → d < e → d * units / span < e * units / span
later_place d e span units some few less =
    let whole : d * units / span * span ≤ d * units = div-mul-le_self (d * units) span in
    let next : (d + 1) * units ≤ e * units = mul-le (d + 1) units e units (omega (arith, less)) (omega arith) in
    let high : (d * units / span + 1) * span ≤ e * units = grind (arith, whole, next, few) in
    let at : d * units / span + 1 ≤ e * units / span = le-div (d * units / span + 1) (e * units) span some high in
    omega (arith, at)

-- an earlier tick never has a greater place
place_order : (d e span units : ℕ) → 0 < span → d ≤ e → d * units / span ≤ e * units / span
place_order d e span units some less =
    let whole : d * units / span * span ≤ d * units = div-mul-le_self (d * units) span in
    let next : d * units ≤ e * units = mul-le d units e units less (omega arith) in
    le-div (d * units / span) (e * units) span some (omega (arith, whole, next))

pub x_later : (f : Frame) (from end : ℕ) → f.to - f.from ≤ ROUND → f.from ≤ from → from < end → end ≤ f.to
    → x_at f from < x_at f end
x_later f from end few low less high =
    let place = later_place (from - f.from) (end - f.from) (f.to - f.from) ROUND (omega (arith, low, less, high)) few
    (omega (arith, low, less)) in
    omega (arith, place)

pub x_order : (f : Frame) (end from : ℕ) → f.from < f.to → end ≤ from → x_at f end ≤ x_at f from
x_order f end from some less =
    let place = place_order (end - f.from) (from - f.from) (f.to - f.from) ROUND (omega (arith, some))
    (omega (arith, less)) in
    omega (arith, place)

-- ---- bars

-- a slot with ticks in the frame has them
in_frame : (from end first last : ℕ) → max from first < min end last → (nat_lt from last && nat_lt first end) ≡ true
in_frame from end first last some =
    let one : nat_lt from last ≡ true = grind (arith, nat_tests) in
    let two : nat_lt first end ≡ true = grind (arith, nat_tests) in
    rw (one, two) refl

one_bar : (f : Frame) (s : Stretch) (row v : ℕ) → is_on_lane f.by_vcpu row s ≡ true → s.by ≡ Slot v
    → max s.from f.from < min s.end f.to
    → bars_in f row s ≡ (record {
      from = max s.from f.from;
      end = min s.end f.to;
      key = key_of f.by_vcpu s v;
      shared = false;
    }) ∷ []
one_bar f s row v here by some =
    rw (here, in_frame s.from s.end f.from f.to some) (ap (held_bars f s) by)

-- a slot with ticks in the frame is a bar of the lane, at its place
pub bar_among : (f : Frame) (before after : List Stretch) (s : Stretch) (row v : ℕ)
    → is_on_lane f.by_vcpu row s ≡ true → s.by ≡ Slot v → max s.from f.from < min s.end f.to
    → lane_bars f (before ++ s ∷ after) row ≡ lane_bars f before row ++ (record {
      from = max s.from f.from;
      end = min s.end f.to;
      key = key_of f.by_vcpu s v;
      shared = false;
    }) ∷ lane_bars f after row
bar_among f before after s row v here by some =
    flat_map-append (bars_in f row) before (s ∷ after)
    ∙ ap (λ (bars : List Bar). lane_bars f before row ++ (bars ++ lane_bars f after row))
    (one_bar f s row v here by some)

-- ---- columns

some_or_none : (n : ℕ) → (0 < n) ⊎ (n ≡ 0)
some_or_none n = grind arith

-- more ticks are higher
level_order : (t u high wide : ℕ) → t ≤ u → u ≤ wide → t * high / wide ≤ u * high / wide
level_order t u high wide less capped = elim (some_or_none wide) [
  | inl some ↦
      let whole : t * high / wide * wide ≤ t * high = div-mul-le_self (t * high) wide in
      let next : t * high ≤ u * high = mul-le t high u high less (omega arith) in
      le-div (t * high / wide) (u * high) wide some (omega (arith, whole, next))
  | inr none ↦
      let same : t ≡ u = omega (arith, less, capped, none) in
      rw same (omega arith)
]

pub levels_rise : (f : Frame) (high : ℕ) (bars : List Bar) (v j : ℕ)
    → level_of f high bars v j ≤ level_of f high bars (v + 1) j
levels_rise f high bars v j =
    let more = sum_more f 200 j v bars in
    level_order (column_ticks (λ w. nat_lt w v) f 200 bars j) (column_ticks (λ w. nat_lt w (v + 1)) f 200 bars j) high
    (width_at f 200 j) (omega (arith, more)) (omega arith)

-- all levels are no higher than the lane
pub level_within : (f : Frame) (high : ℕ) (bars : List Bar) (v j : ℕ) → level_of f high bars v j ≤ high
level_within f high bars v j =
    let ticks = column_ticks (λ w. nat_lt w v) f 200 bars j in
    let most : ticks * high ≤ width_at f 200 j * high =
    mul-le ticks high (width_at f 200 j) high (omega arith) (omega arith) in
    div-le_of_le-mul (width_at f 200 j) most

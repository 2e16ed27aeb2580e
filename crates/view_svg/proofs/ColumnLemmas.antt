-- Which columns a bar is in, and what it adds to them.
use Rattle.std.proofs.Common.{arith, refl, ◌≡◌, ℕ, ◌+◌, ◌-◌, ◌*◌, ◌/◌, ◌<◌, ◌≤◌, true, false, List, [], ◌∷◌, inl, inr, min, replicate}
use Rattle.std.proofs.Math.Nat.{div-le_self, div-lt_iff_lt-mul, div-mul-le_self, lt-div-mul-add}
use Rattle.std.proofs.lemmas.Bool.{cases_eq, cases_lt}
use Rattle.std.proofs.lemmas.Bool.Decides.{nat_tests}
use Rattle.std.proofs.lemmas.Grind.{common_steps}
use Rattle.std.proofs.lemmas.List.{get_or-replicate}
use Rattle.std.proofs.lemmas.List.Sums.{sum_by-cons}
use Rattle.std.proofs.lemmas.Nat.{le-div, mul-le}
use Rattle.std.specs.List.{list_any}
use Rattle.std.specs.Prelude.{◌==◌, if◌then◌else◌, nat_lt, slice_index}
use Rattle.view_svg.specs.Inside.Filling.{AreCapped, AreTicksBelow}
use Rattle.view_lanes.specs.Columns.{sum_of, ticks_in, width_at}
use Rattle.view_lanes.specs.declared.frame.Bar.{Bar}
use Rattle.view_lanes.specs.declared.frame.Frame.{Frame}

-- the columns before a tick's end where it is or before
pub left_edge : (j n span columns : ℕ) → 0 < columns → j + 1 ≤ n * columns / span
    → (0 < n) × (((j + 1) * span + (columns - 1)) / columns ≤ n)
left_edge j n span columns some low =
    let whole : n * columns / span * span ≤ n * columns = div-mul-le_self (n * columns) span in
    let least : n * columns / span ≤ n * columns = div-le_self (n * columns) span in
    let most : (j + 1) * span ≤ n * columns / span * span =
    mul-le (j + 1) span (n * columns / span) span low (omega arith) in
    let none : n ≤ 0 → n * columns ≤ 0 * columns = λ small. mul-le n columns 0 columns small (omega arith) in
    let over : (j + 1) * span + (columns - 1) < (n + 1) * columns =
    grind (arith, whole, most, some) in
    let under : ((j + 1) * span + (columns - 1)) / columns < n + 1 =
    (div-lt_iff_lt-mul {k = columns} {x = (j + 1) * span + (columns - 1)} {y = n + 1} some).1 over in
    (grind (arith, low, least, none), omega (arith, under))

-- the columns after a tick's end begin there or later
pub right_edge : (j n span columns : ℕ) → 0 < columns → 0 < span → n * columns / span + 1 ≤ j
    → n ≤ (j * span + (columns - 1)) / columns
right_edge j n span columns some wide high =
    let less : n * columns < n * columns / span * span + span = lt-div-mul-add wide in
    let most : (n * columns / span + 1) * span ≤ j * span =
    mul-le (n * columns / span + 1) span j span high (omega arith) in
    let under : n * columns ≤ j * span + (columns - 1) = grind (arith, less, most, some) in
    le-div n (j * span + (columns - 1)) columns some under

-- nobody is below the first vCPU
pub none_below : (f : Frame) (columns j : ℕ) (bars : List Bar)
    → sum_of (λ w. nat_lt w 0) f columns bars j ≡ 0
none_below f columns j [] = refl
none_below f columns j (bar ∷ bars) = grind (arith, nat_tests, none_below f columns j bars)

-- a number below the next one is below it, or it
next_one : (w v ticks : ℕ)
    → (if nat_lt w v then ticks else 0) + (if w == v then ticks else 0) ≡ (if nat_lt w (v + 1) then ticks else 0)
next_one w v ticks =
    elim (cases_lt w v) [
      | inl less ↦
          let one : nat_lt w v ≡ true = grind (arith, nat_tests) in
          let two : (w == v) ≡ false = grind (arith, nat_tests) in
          let three : nat_lt w (v + 1) ≡ true = grind (arith, nat_tests) in
          rw (one, two, three) (omega arith)
      | inr high ↦
          let one : nat_lt w v ≡ false = grind (arith, nat_tests) in
          elim (cases_eq w v) [
            | inl same ↦
                let two : (w == v) ≡ true = grind (arith, nat_tests) in
                let three : nat_lt w (v + 1) ≡ true = grind (arith, nat_tests) in
                rw (one, two, three) (omega arith)
            | inr other ↦
                let two : (w == v) ≡ false = grind (arith, nat_tests) in
                let three : nat_lt w (v + 1) ≡ false = grind (arith, nat_tests) in
                rw (one, two, three) (omega arith)
          ]
    ]

-- those below the next vCPU are those below it, and it
pub sum_more : (f : Frame) (columns j v : ℕ) (bars : List Bar)
    → sum_of (λ w. nat_lt w v) f columns bars j + sum_of (λ w. w == v) f columns bars j
    ≡ sum_of (λ w. nat_lt w (v + 1)) f columns bars j
sum_more f columns j v [] = refl
sum_more f columns j v (bar ∷ bars) =
    let rest = sum_more f columns j v bars in
    let one = next_one bar.key v (ticks_in f columns j bar) in
    let low = sum_by-cons (λ (b : Bar). if nat_lt b.key v then ticks_in f columns j b else 0) bar bars in
    let same = sum_by-cons (λ (b : Bar). if b.key == v then ticks_in f columns j b else 0) bar bars in
    let all = sum_by-cons (λ (b : Bar). if nat_lt b.key (v + 1) then ticks_in f columns j b else 0) bar bars in
    omega (arith, rest, one, low, same, all)

-- with the next vCPU's ticks there are those of the vCPUs below the one after it
pub ticks_more : (f : Frame) (v : ℕ) (bars : List Bar) (old new : List ℕ) → AreTicksBelow f bars v old
    → ((j : ℕ) → j < 200 → slice_index new j
    ≡ min (width_at f 200 j) (slice_index old j + sum_of (λ w. w == v) f 200 bars j))
    → AreTicksBelow f bars (v + 1) new
ticks_more f v bars old new below added j low =
    let more = sum_more f 200 j v bars in
    let was = below j low in
    let is = added j low in
    omega (arith, more, was, is)

-- a vCPU without a bar has no ticks
no_ticks : (f : Frame) (columns j v : ℕ) (bars : List Bar) → list_any (λ (bar : Bar). bar.key == v) bars ≡ false
    → sum_of (λ w. w == v) f columns bars j ≡ 0
no_ticks f columns j v [] none = refl
no_ticks f columns j v (bar ∷ bars) none =
    let one : (bar.key == v) ≡ false = grind (arith, common_steps, none) in
    let rest : list_any (λ (b : Bar). b.key == v) bars ≡ false = grind (arith, common_steps, none) in
    grind (arith, common_steps, one, no_ticks f columns j v bars rest)

-- without a bar of the next vCPU the ticks are those of the vCPUs below the one after it
pub ticks_same : (f : Frame) (v : ℕ) (bars : List Bar) (ticks : List ℕ)
    → list_any (λ (bar : Bar). bar.key == v) bars ≡ false → AreTicksBelow f bars v ticks → AreTicksBelow f bars (v + 1) ticks
ticks_same f v bars ticks none below j low =
    let more = sum_more f 200 j v bars in
    let was = below j low in
    let nothing = no_ticks f 200 j v bars none in
    omega (arith, more, was, nothing)

-- the ticks of the vCPUs below a number are capped
pub below_capped : (f : Frame) (v : ℕ) (bars : List Bar) (ticks : List ℕ) → AreTicksBelow f bars v ticks
    → AreCapped f 200 ticks
below_capped f v bars ticks below j low =
    let was = below j low in
    omega (arith, was)

-- before the first vCPU no column has ticks
pub start_below : (f : Frame) (bars : List Bar) → AreTicksBelow f bars 0 (replicate 200 0)
start_below f bars j low =
    let none = none_below f 200 j bars in
    let zero = get_or-replicate {A = ℕ} 200 j 0 0 low in
    omega (arith, none, zero)

-- the columns before those of a bar have none of it
pub none_before : (f : Frame) (columns j : ℕ) (bar : Bar) → 0 < columns
    → j + 1 ≤ (bar.from - f.from) * columns / (f.to - f.from) → ticks_in f columns j bar ≡ 0
none_before f columns j bar some low =
    let e = left_edge j (bar.from - f.from) (f.to - f.from) columns some low in
    omega (arith, e.0, e.1)

-- the columns after those of a bar have none of it
pub none_behind : (f : Frame) (columns j : ℕ) (bar : Bar) → 0 < columns → 0 < f.to - f.from
    → (bar.end - f.from) * columns / (f.to - f.from) + 1 ≤ j → ticks_in f columns j bar ≡ 0
none_behind f columns j bar some wide high =
    let e = right_edge j (bar.end - f.from) (f.to - f.from) columns some wide high in
    omega (arith, e)

-- A column has the ticks of the bars of its window.
use Rattle.std.proofs.Common.{arith, refl, ap, subst, ◌∙◌, ◌≡◌, ℕ, zero, suc, ◌+◌, ◌-◌, ◌*◌, ◌/◌, ◌<◌, ◌≤◌, Bool, true, false, List, [], ◌∷◌, drop, get_or, length, min, take}
use Rattle.std.proofs.Math.Nat.{div-mul-le_self}
use Rattle.std.proofs.lemmas.List.{get_or-drop, get_or-take, length-drop, length-take-le}
use Rattle.std.proofs.lemmas.List.Sums.{sum_by-cons, sum_by-take-drop}
use Rattle.std.proofs.lemmas.Nat.{le-div, mul-le}
use Rattle.std.specs.List.{sum_by}
use Rattle.std.specs.Prelude.{◌==◌, if◌then◌else◌}
use Rattle.view_lanes.specs.Columns.{edge_of, overlap, ticks_in, width_at}
use Rattle.view_lanes.specs.declared.frame.Bar.{Bar}
use Rattle.view_lanes.specs.declared.frame.Frame.{Frame}
use Rattle.view_text.specs.Inside.Windows.{AreBefore, AreBehind, BarsRise}
use Rattle.view_text.specs.TextCharts.{held_at, leader, letter_at, letter_by, letter_for, owned_at}
use Rattle.view_text.proofs.LetterLemmas.{leader_same}

-- ---- edges

-- a column doesn't begin before the one before it
pub edge_rises : (f : Frame) (columns j : ℕ) → 0 < columns → edge_of f columns j ≤ edge_of f columns (j + 1)
edge_rises f columns j some =
    let span = f.to - f.from in
    let wide : j * span ≤ (j + 1) * span = mul-le j span (j + 1) span (omega arith) (omega arith) in
    let part : (j * span + (columns - 1)) / columns * columns ≤ j * span + (columns - 1) =
    div-mul-le_self (j * span + (columns - 1)) columns in
    let least : (j * span + (columns - 1)) / columns * columns ≤ (j + 1) * span + (columns - 1) =
    omega (arith, wide, part) in
    let at = le-div ((j * span + (columns - 1)) / columns) ((j + 1) * span + (columns - 1)) columns some least in
    omega (arith, at)

-- what ends before a column begins ends before the next one does
pub not_later : (end first edge next : ℕ) → end ≤ first → first ≡ edge → edge ≤ next → end ≤ next
not_later end first edge next early is later = omega (arith, early, is, later)

-- ---- windows

-- bars that rise from each to the next rise from each to all after it
pub rise_all : (bars : List Bar) (i n : ℕ) (d : Bar) → BarsRise bars → i + n < length bars
    → (get_or bars i d).from ≤ (get_or bars (i + n) d).from
rise_all bars i zero d rise low = rw (same i) (omega arith)
  where
    same : (i : ℕ) → i + 0 ≡ i
    same i = omega arith
rise_all bars i (suc n) d rise low =
    let rest = rise_all bars i n d rise (omega (arith, low)) in
    let next = rise (i + n) d (omega (arith, low)) in
    let place : i + n + 1 ≡ i + suc n = omega arith in
    subst (λ k. (get_or bars i d).from ≤ (get_or bars k d).from) place (omega (arith, rest, next))

-- from a bar on that begins at a tick or later, none begins before it
pub behind_all : (bars : List Bar) (stop tick : ℕ) → BarsRise bars → stop < length bars
    → ((d : Bar) → tick ≤ (get_or bars stop d).from) → AreBehind tick bars stop
behind_all bars stop tick rise low first i d order within =
    let place : stop + (i - stop) ≡ i = omega (arith, order) in
    let all = rise_all bars stop (i - stop) d rise (omega (arith, order, within)) in
    let at = subst (λ k. (get_or bars stop d).from ≤ (get_or bars k d).from) place all in
    let begin = first d in
    omega (arith, at, begin)

-- ---- sums

-- where each is 0 the sum is
sum_none : (g : Bar → ℕ) (bars : List Bar) → ((i : ℕ) (d : Bar) → i < length bars → g (get_or bars i d) ≡ 0)
    → sum_by g bars ≡ 0
sum_none g [] none = refl
sum_none g (bar ∷ bars) none =
    let here : g bar ≡ 0 = none 0 bar (omega arith) in
    let rest = sum_none g bars (λ i d low. none (suc i) d (omega (arith, low))) in
    let step = sum_by-cons g bar bars in
    omega (arith, here, rest, step)

-- where each outside the window is 0 the sum is the window's
sum_window : (g : Bar → ℕ) (bars : List Bar) (start stop : ℕ) → start ≤ stop → stop ≤ length bars
    → ((i : ℕ) (d : Bar) → i < start → g (get_or bars i d) ≡ 0)
    → ((i : ℕ) (d : Bar) → stop ≤ i → i < length bars → g (get_or bars i d) ≡ 0)
    → sum_by g (take (stop - start) (drop start bars)) ≡ sum_by g bars
sum_window g bars start stop order within before behind =
    let rest = drop start bars in
    let n = stop - start in
    let size : length rest ≡ length bars - start = length-drop start bars in
    let fore : length (take start bars) ≡ start = length-take-le start bars (omega (arith, order, within)) in
    let front : sum_by g (take start bars) ≡ 0 =
    sum_none g (take start bars) (λ i d low.
    ap g (get_or-take start bars i d (omega (arith, low, fore))) ∙ before i d (omega (arith, low, fore))) in
    let aft : length (drop n rest) ≡ length rest - n = length-drop n rest in
    let back : sum_by g (drop n rest) ≡ 0 =
    sum_none g (drop n rest) (λ i d low.
    ap g (get_or-drop n rest i d ∙ get_or-drop start bars (n + i) d)
    ∙ behind (start + (n + i)) d (omega (arith, order)) (omega (arith, order, low, aft, size))) in
    let whole = sum_by-take-drop g bars start in
    let part = sum_by-take-drop g rest n in
    omega (arith, front, back, whole, part)

-- what ends before a column or begins after it has nothing in it
none_before : (first last : ℕ) (bar : Bar) → bar.end ≤ first → overlap first last bar ≡ 0
none_before first last bar early = omega (arith, early)

none_behind : (first last : ℕ) (bar : Bar) → last ≤ bar.from → overlap first last bar ≡ 0
none_behind first last bar late = omega (arith, late)

none_if : (test : Bool) (n : ℕ) → n ≡ 0 → (if test then n else 0) ≡ 0
none_if true n none = none
none_if false n none = refl

-- ---- letters

-- a column's letter is that of its window
pub letter_window : (f : Frame) (columns vcpus : ℕ) (bars : List Bar) (start stop j : ℕ) → vcpus ≤ 256
    → start ≤ stop → stop ≤ length bars → AreBefore (edge_of f columns j) bars start
    → AreBehind (edge_of f columns (j + 1)) bars stop
    → letter_at f columns vcpus (take (stop - start) (drop start bars)) j ≡ letter_at f columns vcpus bars j
letter_window f columns vcpus bars start stop j few order within before behind =
    let window = take (stop - start) (drop start bars) in
    let first = edge_of f columns j in
    let last = edge_of f columns (j + 1) in
    let owned : (v : ℕ) → owned_at f columns window j v ≡ owned_at f columns bars j v = λ v.
    ap (min (width_at f columns j))
    (sum_window (λ bar. if bar.key == v then ticks_in f columns j bar else 0) bars start stop order within
    (λ i d low. none_if ((get_or bars i d).key == v) _
    (none_before first last (get_or bars i d) (before i d low)))
    (λ i d at low. none_if ((get_or bars i d).key == v) _
    (none_behind first last (get_or bars i d) (behind i d at low)))) in
    let held : held_at f columns window j ≡ held_at f columns bars j =
    ap (min (width_at f columns j)) (sum_window (ticks_in f columns j) bars start stop order within
    (λ i d low. none_before first last (get_or bars i d) (before i d low))
    (λ i d at low. none_behind first last (get_or bars i d) (behind i d at low))) in
    let who : leader (owned_at f columns window j) vcpus ≡ leader (owned_at f columns bars j) vcpus =
    leader_same (owned_at f columns window j) (owned_at f columns bars j) vcpus few (λ v low. owned v) in
    ap (letter_by f columns window j) who
    ∙ (ap (λ n. letter_for (leader (owned_at f columns bars j) vcpus) n
    (width_at f columns j - held_at f columns window j)) (owned (leader (owned_at f columns bars j) vcpus))
    ∙ ap (λ n. letter_for (leader (owned_at f columns bars j) vcpus)
    (owned_at f columns bars j (leader (owned_at f columns bars j) vcpus)) (width_at f columns j - n)) held)

-- a column's letter is that of its window, by edges that were computed
pub letter_in_window : (f : Frame) (columns vcpus : ℕ) (bars : List Bar) (start stop j first last : ℕ) → vcpus ≤ 256
    → first ≡ edge_of f columns j → last ≡ edge_of f columns (j + 1) → AreBefore first bars start → start ≤ stop
    → stop ≤ length bars → AreBehind last bars stop
    → letter_at f columns vcpus (take (stop - start) (drop start bars)) j ≡ letter_at f columns vcpus bars j
letter_in_window f columns vcpus bars start stop j first last few is_first is_last before order within behind =
    letter_window f columns vcpus bars start stop j few order within
    (subst (λ tick. AreBefore tick bars start) is_first before)
    (subst (λ tick. AreBehind tick bars stop) is_last behind)

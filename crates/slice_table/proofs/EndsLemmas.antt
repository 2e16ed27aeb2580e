-- The ends of spans, the shortest of them, and which span holds a tick.
use Rattle.std.proofs.Common.{◌≡◌, ℕ, ◌+◌, ◌*◌, ◌/◌, ◌<◌, ◌≤◌, List, length, inl, inr, refl, subst, arith, add-one}
use Rattle.std.specs.Prelude.{slice_index}
use Rattle.std.proofs.lemmas.Bool.{cases_lt}
use Rattle.std.proofs.Math.Nat.{div-lt_iff_lt-mul, div-mul-le_self, lt-div-mul-add}
use Rattle.tab_core.specs.declared.TheConstants.{ROUND}
use Rattle.slice_table.specs.Inside.Spans.{AreEnds, IsSliced}
use Rattle.slice_table.specs.Slices.{HoldsTick, IsShortest, MeetsTwo, begin_at}

-- a span begins where the one before ends
pub next_begin : (ends : List ℕ) (k : ℕ) → begin_at ends (k + 1) ≡ slice_index ends k
next_begin ends k = rw add-one refl

-- after a span that ends before the round does there is another
pub one_more : (ends : List ℕ) (k tick : ℕ) → AreEnds ends → k < length ends
    → slice_index ends k ≤ tick → tick < ROUND → k + 1 < length ends
one_more ends k tick are there ended in_round = elim (cases_lt (k + 1) (length ends)) [
  | inl less ↦ less
  | inr past ↦ absurd (
      let last : k + 1 ≡ length ends = omega arith in
      let end = are.last k last in omega arith)
]

-- where the round isn't over at a span's end, the next span holds that tick
pub held_after : (ends : List ℕ) (k tick : ℕ) → AreEnds ends → HoldsTick ends k tick → slice_index ends k < ROUND
    → HoldsTick ends (k + 1) (slice_index ends k)
held_after ends k tick are holds less =
    let more = one_more ends k (slice_index ends k) are holds.there (omega arith) less in
    let begin = next_begin ends k in
    record {
      there = more;
      from = omega arith;
      before = (let rise = are.rise (k + 1) more in omega arith);
    }

-- the shortest span has a tick
pub shortest_some : (ticks : ℕ) (ends : List ℕ) → AreEnds ends → IsShortest ticks ends → 0 < ticks
shortest_some ticks ends are shortest =
    (let rise = are.rise shortest.number shortest.there in omega (arith, shortest.met))

-- no other number is that of the shortest span's ticks
pub shortest_one : (ticks other : ℕ) (ends : List ℕ) → IsShortest ticks ends → IsShortest other ends → ticks ≡ other
shortest_one ticks other ends is too =
    (let here = is.least too.number too.there in let there = too.least is.number is.there in
    omega (arith, is.met, too.met))

-- a slice has a tick
slice_some : (size : ℕ) (slices ends : List ℕ) → IsSliced size slices ends → 0 < size
slice_some size slices ends sliced = shortest_some size ends sliced.are_ends sliced.shortest

-- the tick's slice is there
pub slice_there : (size : ℕ) (slices ends : List ℕ) (tick : ℕ) → IsSliced size slices ends → tick < ROUND
    → tick / size < length slices
slice_there size slices ends tick sliced in_round =
    (div-lt_iff_lt-mul {k = size} {x = tick} {y = length slices} (slice_some size slices ends sliced)).1
    (omega (arith, sliced.are_slices.whole))

-- a tick before the end of the span of its slice is held by that span
pub held_first : (size : ℕ) (slices ends : List ℕ) (tick number : ℕ) → IsSliced size slices ends
    → tick < ROUND
    → number ≡ slice_index slices (tick / size) → tick < slice_index ends number → HoldsTick ends number tick
held_first size slices ends tick number sliced in_round is before =
    let first : HoldsTick ends number (tick / size * size) = rw is
    (sliced.are_slices.first (tick / size) (slice_there size slices ends tick sliced in_round)) in
    record {
      there = first.there;
      from = omega (arith, first.from, div-mul-le_self tick size);
      before = before;
    }

-- a tick after the end of the span of its slice is held by the next span, since that is no shorter
-- than the slice
pub held_next : (size : ℕ) (slices ends : List ℕ) (tick number : ℕ) → IsSliced size slices ends → tick < ROUND
    → number ≡ slice_index slices (tick / size) → slice_index ends number ≤ tick
    → HoldsTick ends (number + 1) tick
held_next size slices ends tick number sliced in_round is ended =
    let first : HoldsTick ends number (tick / size * size) = rw is
    (sliced.are_slices.first (tick / size) (slice_there size slices ends tick sliced in_round)) in
    let more = one_more ends number tick sliced.are_ends first.there ended in_round in
    let begin = next_begin ends number in
    let long = sliced.shortest.least (number + 1) more in
    let slice = lt-div-mul-add {a = tick} {b = size} (slice_some size slices ends sliced) in
    record {
      there = more;
      from = omega arith;
      before = omega (arith, first.before);
    }

-- each slice meets two spans at most
pub meets_two : (size : ℕ) (slices ends : List ℕ) (tick : ℕ) → IsSliced size slices ends → tick < ROUND
    → MeetsTwo size slices ends tick
meets_two size slices ends tick sliced in_round =
    let number = slice_index slices (tick / size) in
    elim (cases_lt tick (slice_index ends number)) [
      | inl before ↦ inl (held_first size slices ends tick number sliced in_round refl before)
      | inr ended ↦ inr (held_next size slices ends tick number sliced in_round refl ended)
    ]

-- the slices of a table are of the shortest span's ticks, whatever name that number has
pub sliced_by : (size ticks : ℕ) (slices ends : List ℕ) → IsSliced size slices ends → IsShortest ticks ends
    → IsSliced ticks slices ends
sliced_by size ticks slices ends sliced shortest =
    subst (λ (n : ℕ). IsSliced n slices ends) (shortest_one size ticks ends sliced.shortest shortest) sliced

-- The wrap-around layout of an interval of length l on m cores, and the opening flow of one job.
use Rattle.std.proofs.Common.{◌≡◌, ℕ, suc, ◌+◌, ◌-◌, ◌*◌, ◌<◌, ◌≤◌, cond, ap, refl, sym, ◌∙◌, arith, ⊎_elim}
use Rattle.std.proofs.lemmas.Bool.{cases_lt, le-leb, lt-leb, lt-ltb, le-ltb}
use Rattle.std.proofs.Math.Nat.{mul-le-mul_right, le_of_mul-le-mul_right, mul_comm, add-mul, suc-mul}
use lib.Dec.{leb, ltb}
use Rattle.tab_core.specs.Sums.{total}
use Rattle.tab_core.proofs.Totals.{total-le, total-ext, total-split, total-none, total-blocks, total-const, total-add}
use Rattle.flow_net.proofs.Cut.{scaled}

-- position q is in the range of length f from o
abbrev pub in_range : ℕ → ℕ → ℕ → ℕ
in_range o f q = cond (leb o q) (cond (ltb q (o + f)) 1 0) 0

-- a range has as many positions as its length
pub range_count : (o f rest : ℕ) → total (in_range o f) (o + f + rest) ≡ f
range_count o f rest =
    let before : total (in_range o f) o ≡ 0 = total-none (in_range o f) o (λ k h. rw (lt-leb o k h) refl) in
    let middle : total (λ k. in_range o f (o + k)) f ≡ f * 1
    = total-ext (λ k. in_range o f (o + k)) (λ k. 1) f (λ k h. rw (
      le-leb o (o
          + k) (omega arith),
      lt-ltb (o + k) (o + f) (omega arith),
    ) refl) ∙ total-const 1 f in
    let after : total (λ k. in_range o f (o + f + k)) rest ≡ 0
    = total-none (λ k. in_range o f (o + f + k)) rest (λ k h. rw (
      le-leb o (o + f
          + k) (omega arith),
      le-ltb (o + f + k) (o + f) (omega arith),
    ) refl) in
    omega (
      arith,
      before,
      middle,
      after,
      total-split (in_range o f) (o
          + f) rest,
      total-split (in_range o f) o f,
    )

-- over m cores of length l each, the places of a range number its length
pub layout_serves : (o f l m : ℕ) → o + f ≤ m * l → total (λ c. total (λ t. in_range o f (c * l + t)) l) m ≡ f
layout_serves o f l m h =
    let rest = m * l - (o + f) in
    let all : o + f + rest ≡ m * l = omega arith in
    let counted = rw all at (range_count o f rest) in
    sym (total-blocks (in_range o f) l m) ∙ counted

-- no place is taken on two cores
pub layout_apart : (o f l c d t : ℕ) → f ≤ l → c < d → o ≤ c * l + t → d * l + t < o + f → ⊥
layout_apart o f l c d t short less from until =
    omega (arith, mul-le-mul_right l (let q : suc c ≤ d = omega arith in q), suc-mul c l)

-- the opening flow of a job on its intervals: it still needs less than one tick on each
pub opening : (cost span intervals : ℕ) (length flow : ℕ → ℕ) → 0 < span → 0 < intervals
    → total length intervals ≡ span
    → ((i : ℕ) → i < intervals → flow i * span ≤ cost * length i) → ((i : ℕ) → i < intervals
    → cost * length i + 1 ≤ flow i * span + span)
    → (total flow intervals ≤ cost) × (cost + 1 ≤ total flow intervals + intervals)
opening cost span intervals length flow some many whole low high =
    let cost_sum : total (λ i. cost * length i) intervals ≡ cost * span
    = total-ext (λ i. cost * length i) (λ i. length i * cost) intervals (λ i h. mul_comm cost (length i))
    ∙ (scaled length cost intervals ∙ (ap (λ n. n * cost) whole ∙ mul_comm span cost)) in
    let flow_sum = scaled flow span intervals in
    let below = total-le (λ i. flow i * span) (λ i. cost * length i) intervals low in
    let above = total-le (λ i. cost * length i + 1) (λ i. flow i * span + span) intervals high in
    let ones = total-add (λ i. cost * length i) (λ i. 1) intervals in
    let ones' = total-const 1 intervals in
    let spans = total-add (λ i. flow i * span) (λ i. span) intervals in
    let spans' = total-const span intervals in
    let most : total flow intervals * span ≤ cost * span = omega (arith, below, flow_sum, cost_sum) in
    let least : cost * span + intervals ≤ (total flow intervals + intervals) * span
    = omega (
      arith,
      above,
      ones,
      ones',
      spans,
      spans',
      flow_sum,
      cost_sum,
      add-mul (total flow intervals)
          intervals span,
    ) in (
      le_of_mul-le-mul_right most some,
      ⊎_elim
          (λ (ok : cost < total flow intervals + intervals). omega arith)
          (λ (bad : total flow intervals + intervals
          ≤ cost). absurd (omega (arith, least, mul-le-mul_right span bad, many)))
          (cases_lt cost (total flow intervals + intervals)),
    )

-- Of twelve colours one is free for a vCPU that meets fewer than twelve of the lower ones.
use Rattle.std.proofs.Common.{arith, refl, ap, sym, ◌∙◌, ◌≡◌, ◌≢◌, ℕ, zero, suc, ◌+◌, ◌<◌, ◌≤◌, ◌⊎◌, inl, inr, Bool, true, false, List, length}
use Rattle.std.proofs.lemmas.Bool.{cases_Bool, cases_eq, cases_lt}
use Rattle.std.proofs.lemmas.Bool.Decides.{nat_tests}
use Rattle.std.proofs.lemmas.Grind.{common_steps}
use Rattle.std.specs.Prelude.{◌==◌, ◌&&◌, ◌||◌, ◌%◌, if◌then◌else◌, nat_le, nat_lt, slice_index}
use Rattle.tab_core.specs.declared.TheConstants.{MAX_CORES}
use Rattle.view_doc.specs.declared.view.Stretch.{Stretch}
use Rattle.view_doc.specs.declared.view.Task.{Task}
use Rattle.view_lanes.specs.Colours.{belongs_to_core, colours_below, colours_of, first_free, is_colour_taken, meets, meets_below, met_below, next_colour, taken_below}

-- ---- the colours by number

count_of : (on : ℕ → ℕ → Bool) (vcpus n : ℕ) → length (colours_below on vcpus n) ≡ n
count_of on vcpus zero = refl
count_of on vcpus (suc n) = grind (arith, common_steps, count_of on vcpus n)

-- the colour of each is the next one after those of the lower ones
colour_at : (on : ℕ → ℕ → Bool) (vcpus n v : ℕ) → v < n
    → slice_index (colours_below on vcpus n) v ≡ next_colour on vcpus (colours_below on vcpus v) v
colour_at on vcpus zero v low = absurd (omega (arith, low))
colour_at on vcpus (suc n) v low = elim (cases_lt v n) [
  | inl less ↦
      let count = count_of on vcpus n in
      let rest = colour_at on vcpus n v less in
      grind (arith, common_steps, count, rest, less)
  | inr high ↦
      let same : v ≡ n = omega (arith, low, high) in
      let count = count_of on vcpus n in
      rw same (grind (arith, common_steps, count))
]

-- the colours below a number are the same in longer lists
colour_same : (on : ℕ → ℕ → Bool) (vcpus n m v : ℕ) → v < n → v < m
    → slice_index (colours_below on vcpus n) v ≡ slice_index (colours_below on vcpus m) v
colour_same on vcpus n m v low less = colour_at on vcpus n v low ∙ sym (colour_at on vcpus m v less)

-- ---- a free colour

-- the first free one isn't taken, or all are
free_one : (taken : ℕ → Bool) (other k n : ℕ)
    → (taken (first_free taken other k n) ≡ false) ⊎ ((j : ℕ) → k ≤ j → j < k + n → taken j ≡ true)
free_one taken other k zero = inr (λ j low high. absurd (omega (arith, low, high)))
free_one taken other k (suc n) = elim (cases_Bool (taken k)) [
  | inl is ↦ elim (free_one taken other (suc k) n) [
    | inl free ↦ inl (rw is free)
    | inr all ↦ inr (λ j low high. elim (cases_eq j k) [
      | inl same ↦ ap taken same ∙ is
      | inr more ↦ all j (omega (arith, low, more)) (omega (arith, high))
    ])
  ]
  | inr free ↦ inl (rw free free)
]

-- how many of the numbers below one pass the test
unfoldable count_below : (ℕ → Bool) → ℕ → ℕ
count_below test zero = 0
count_below test (suc n) = count_below test n + (if test n then 1 else 0)

all_counted : (test : ℕ → Bool) (n : ℕ) → ((j : ℕ) → j < n → test j ≡ true) → count_below test n ≡ n
unfolding count_below
all_counted test zero all = refl
all_counted test (suc n) all =
    let rest = all_counted test n (λ j low. all j (omega (arith, low))) in
    rw (all n (omega arith)) (omega (arith, rest))

-- one more number passes at most
one_more : (test : ℕ → Bool) (c : ℕ) (m : Bool) (n : ℕ)
    → count_below (λ k. test k || ((c == k) && m)) n
    ≤ count_below test n + (if m && nat_lt c n then 1 else 0)
unfolding count_below
one_more test c m zero = omega arith
one_more test c true (suc n) = elim (cases_eq c n) [
  | inl same ↦
      let rest = one_more test c true n in
      let no : nat_lt c n ≡ false = grind (arith, nat_tests) in
      let yes : nat_lt c (suc n) ≡ true = grind (arith, nat_tests) in
      grind (arith, common_steps, rest, no, yes)
  | inr other ↦
      let rest = one_more test c true n in
      let no : (c == n) ≡ false = grind (arith, nat_tests) in
      let alike : nat_lt c (suc n) ≡ nat_lt c n = grind (arith, nat_tests) in
      grind (arith, common_steps, rest, no, alike)
]
one_more test c false (suc n) =
    let rest = one_more test c false n in
    grind (arith, common_steps, rest)

none_counted : (n : ℕ) → count_below (λ k. false) n ≡ 0
unfolding count_below
none_counted zero = refl
none_counted (suc n) = omega (arith, none_counted n)

-- at most one more where it is met
one_cap : (m low : Bool) → (if m && low then 1 else 0) ≤ (if m then 1 else 0)
one_cap true true = omega arith
one_cap true false = omega arith
one_cap false low = omega arith

-- no more colours are taken than vCPUs are met
few_taken : (on : ℕ → ℕ → Bool) (colours : List ℕ) (v n : ℕ)
    → count_below (λ k. taken_below on colours v k n) 12 ≤ met_below on v n
few_taken on colours v zero = omega (arith, none_counted 12)
few_taken on colours v (suc u) =
    let rest = few_taken on colours v u in
    let cap = one_cap (meets on u v) (nat_lt (slice_index colours u) 12) in
    let more : count_below (λ k. taken_below on colours v k (suc u)) 12
    ≤ count_below (λ k. taken_below on colours v k u) 12
    + (if meets on u v && nat_lt (slice_index colours u) 12 then 1 else 0) =
    one_more (λ k. taken_below on colours v k u) (slice_index colours u) (meets on u v) 12 in
    three_steps _ _ _ _ _ more rest cap
  where
    three_steps : (a b c d e : ℕ) → a ≤ b + c → b ≤ d → c ≤ e → a ≤ d + e
    three_steps a b c d e one two three = omega (arith, one, two, three)

-- what no part says
no_last : (a b c : Bool) → (a || (b && c)) ≡ false → b ≡ true → c ≡ true → ⊥
no_last true b c none one other = absurd cc
no_last false true true none one other = absurd cc
no_last false true false none one other = absurd cc
no_last false false c none one other = absurd cc

no_first : (a b : Bool) → (a || b) ≡ false → a ≡ false
no_first true b none = absurd cc
no_first false b none = refl

-- a colour that isn't taken isn't that of a lower one that is met
untaken : (on : ℕ → ℕ → Bool) (colours : List ℕ) (v k n u : ℕ) → u < n → meets on u v ≡ true
    → taken_below on colours v k n ≡ false → slice_index colours u ≢ k
untaken on colours v k zero u low met free = absurd (omega (arith, low))
untaken on colours v k (suc n) u low met free = elim (cases_eq u n) [
  | inl same ↦ λ is.
      let yes : (slice_index colours n == k) ≡ true = grind (arith, nat_tests, is, same) in
      let meet : meets on n v ≡ true = ap (λ w. meets on w v) (sym same) ∙ met in
      no_last (taken_below on colours v k n) (slice_index colours n == k) (meets on n v) free yes meet
  | inr other ↦
      let rest : taken_below on colours v k n ≡ false =
      no_first (taken_below on colours v k n) ((slice_index colours n == k) && meets on n v) free in
      untaken on colours v k n u (omega (arith, low, other)) met rest
]

-- ---- the law

-- two on one core meet
on_meets : (on : ℕ → ℕ → Bool) (u v core n : ℕ) → core < n → on core u ≡ true → on core v ≡ true
    → meets_below on u v n ≡ true
on_meets on u v core zero low one other = absurd (omega (arith, low))
on_meets on u v core (suc n) low one other = elim (cases_eq core n) [
  | inl same ↦
      let first : on n u ≡ true = ap (λ c. on c u) (sym same) ∙ one in
      let second : on n v ≡ true = ap (λ c. on c v) (sym same) ∙ other in
      grind (arith, common_steps, first, second)
  | inr less ↦
      let rest = on_meets on u v core n (omega (arith, low, less)) one other in
      grind (arith, common_steps, rest)
]

-- a colour that is free is another one
pub other_colour : (on : ℕ → ℕ → Bool) (vcpus u v : ℕ) → u < v → v < vcpus → meets on u v ≡ true
    → met_below on v v < 12
    → slice_index (colours_below on vcpus vcpus) u ≢ slice_index (colours_below on vcpus vcpus) v
other_colour on vcpus u v less low met few =
    let lower = colours_below on vcpus v in
    let at_u = colour_same on vcpus vcpus v u (omega (arith, less, low)) less in
    let at_v = colour_at on vcpus vcpus v low in
    elim (cases_Bool (nat_le vcpus 12)) [
      | inl all ↦
          let one : slice_index (colours_below on vcpus vcpus) u ≡ u =
          colour_at on vcpus vcpus u (omega (arith, less, low)) ∙ rw all refl in
          let other : slice_index (colours_below on vcpus vcpus) v ≡ v = at_v ∙ rw all refl in
          λ is. absurd (omega (arith, is, one, other, less))
      | inr many ↦
          let other : slice_index (colours_below on vcpus vcpus) v
          ≡ first_free (is_colour_taken on lower v) (24 + v % 24) 0 12 = at_v ∙ rw many refl in
          elim (free_one (is_colour_taken on lower v) (24 + v % 24) 0 12) [
            | inl free ↦ λ is.
                untaken on lower v (first_free (is_colour_taken on lower v) (24 + v % 24) 0 12) v u less met free
                (sym at_u ∙ (is ∙ other))
            | inr taken ↦
                let twelve = all_counted (λ k. taken_below on lower v k v) 12
                (λ j below. taken j (omega arith) (omega (arith, below))) in
                let most = few_taken on lower v v in
                λ is. absurd (omega (arith, twelve, most, few))
          ]
    ]

pub lane_colours : (stretches : List Stretch) (tasks : List Task) (vcpus u v core : ℕ) → u < v → v < vcpus
    → core < MAX_CORES → belongs_to_core stretches tasks core u ≡ true → belongs_to_core stretches tasks core v ≡ true
    → met_below (belongs_to_core stretches tasks) v v < 12
    → slice_index (colours_of stretches tasks vcpus) u ≢ slice_index (colours_of stretches tasks vcpus) v
lane_colours stretches tasks vcpus u v core less low there one other few =
    other_colour (belongs_to_core stretches tasks) vcpus u v less low
    (on_meets (belongs_to_core stretches tasks) u v core MAX_CORES there one other) few

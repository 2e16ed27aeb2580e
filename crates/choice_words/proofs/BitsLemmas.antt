-- The least common member of two sets, word by word.
use Rattle.std.proofs.Common.{◌≡◌, ◌∙◌, ℕ, ◌+◌, ◌-◌, ◌*◌, ◌/◌, ◌%◌, ◌<◌, ◌≤◌, ◌^◌, ◌↔◌, true, false, cond, eqb, nat_lt, List, Some, None, get_or, sym, ap, arith, inl, inr, w64, bit_and}
use Rattle.std.proofs.lemmas.Bool.{cases_lt}
use Rattle.std.proofs.lemmas.Bool.Decides.{nat_tests}
use Rattle.std.proofs.lemmas.Nat.{shr-shr}
use Rattle.std.proofs.Math.Nat.{div-le_self}
use Rattle.std.proofs.lemmas.Nat.Bits.{bit_at-zero, bit_at_above, bit_at-trailing_zeros, shr_and_one}
use Rattle.std.specs.Int.{bit_at, trailing_zeros}
use Rattle.tab_core.specs.Least.{IsLeast}
use Rattle.tab_core.specs.VcpuSets.{IsInBoth, members_of}
use Rattle.tab_core.proofs.Bits.{bits_below-at, common_bits, member_low}
use Rattle.table_form.specs.Running.Choice.{owner_runs}
use Rattle.choice_words.specs.Words.{vcpu_of}
use Rattle.choice_words.specs.Inside.Bits.{HasBitFrom, IsFirst, NoneFrom}

-- a bit of the word that has it says whether the number is a member's
pub has_by_word : (words : List ℕ) (n word : ℕ) → n < 256 → word ≡ get_or words (n / 64) 0
    → eqb (bit_and (word / 2 ^ (n % 64)) 1) 1 ≡ owner_runs (vcpu_of n) (members_of words)
has_by_word words n word lt is =
    let bit = bits_below-at words 256 n false lt in
    let one : bit_and (word / 2 ^ (n % 64)) 1 ≡ bit_at (get_or words (n / 64) 0) (n % 64)
    = shr_and_one word (n % 64) ∙ ap (λ w. bit_at w (n % 64)) is in
    let small : nat_lt n 256 ≡ true = grind (arith, nat_tests) in
    ap (λ b. eqb b 1) one ∙ sym (ap (λ b. owner_runs (cond b (Some n) None) (members_of words)) small ∙ bit)

-- the bits of a word from one on
shifted : (word k i : ℕ) → bit_at (word / 2 ^ k) i ≡ bit_at word (k + i)
shifted word k i = ap (λ x. x % 2) (shr-shr word k i)

-- where nothing is left of the word, it has no number from there on
pub none_left : (word base from skip : ℕ) → skip ≡ from - base → word / 2 ^ skip ≡ 0
    → NoneFrom (HasBitFrom word base) from
none_left word base from skip is nothing = λ w has le.
    (let i : (i : ℕ) × (skip + i ≡ w - base) = (w - base - skip, omega (arith, le, is, has.low)) in
    let none : bit_at (word / 2 ^ skip) i.0 ≡ 0 = ap (λ n. bit_at n i.0) nothing ∙ bit_at-zero i.0 in
    let one : bit_at word (skip + i.0) ≡ 1 = rw i.1 has.bit in
    omega (arith, none, one, shifted word skip i.0))

-- the word ends before that number
pub none_beyond : (word base from skip : ℕ) → skip ≡ from - base → 64 ≤ skip → NoneFrom (HasBitFrom word base) from
none_beyond word base from skip is le = λ w has high. omega (arith, is, le, high, has.high)

-- otherwise the lowest bit of what is left is the least number
pub least_left : (word base from skip : ℕ) → skip ≡ from - base → word < 2 ^ 64 → 0 < word / 2 ^ skip
    → IsLeast (HasBitFrom word base) from (base + skip + trailing_zeros w64 (word / 2 ^ skip))
least_left word base from skip is fits some =
    let rest = word / 2 ^ skip in
    let t = trailing_zeros w64 rest in
    let small : rest < 2 ^ 64 = omega (arith, fits, div-le_self word (2 ^ skip)) in
    let lowest = bit_at-trailing_zeros w64 rest some small in
    let one : bit_at word (skip + t) ≡ 1 = sym (shifted word skip t) ∙ lowest.1 in
    let within : skip + t < 64 = elim (cases_lt (skip + t) 64) [
      | inl lt ↦ lt
      | inr beyond ↦ absurd (omega (arith, one, bit_at_above word 64 (skip + t) fits beyond))
    ] in
    let place : base + skip + t - base ≡ skip + t = omega arith in
    record {
      holds = record { low = omega arith; high = omega (arith, within); bit = rw place one };
      high = omega (arith, is);
      first = λ w has le. elim (cases_lt w (base + skip + t)) [
        | inr after ↦ after
        | inl before ↦
            let i : (i : ℕ) × (skip + i ≡ w - base) × (i < t) = (
              w - base - skip,
              omega (arith, le, is, has.low),
              omega (arith, le, is, has.low, before),
            ) in
            let set : bit_at word (skip + i.0) ≡ 1 = rw i.1 has.bit in
            absurd (omega (arith, set, lowest.2 i.0 i.2, shifted word skip i.0))
      ];
    }

-- what is known of the common bits of the words of two sets at a place: they are the common members there
abbrev pub AreBoth : List ℕ → List ℕ → ℕ → ℕ → Type 0
AreBoth a b base both = (i : ℕ) → i < 64 → (bit_at both i ≡ 1) ↔ IsInBoth (members_of a) (members_of b) (base + i)

-- the number of a bit is a common member
member_there : (a b : List ℕ) (base both v : ℕ) → AreBoth a b base both → HasBitFrom both base v
    → IsInBoth (members_of a) (members_of b) v
member_there a b base both v are has =
    let same : base + (v - base) ≡ v = omega (arith, has.low) in
    rw (← same) ((are (v - base) (omega (arith, has.low, has.high))).0 has.bit)

-- a common member of these numbers has its bit
bit_there : (a b : List ℕ) (base both v : ℕ) → AreBoth a b base both → base ≤ v → v < base + 64
    → IsInBoth (members_of a) (members_of b) v → HasBitFrom both base v
bit_there a b base both v are low high is =
    let same : base + (v - base) ≡ v = omega (arith, low) in
    record { low = low; high = high; bit = (are (v - base) (omega (arith, low, high))).1 (rw same is) }

-- nobody from a number on and below another is common
abbrev pub NoneBelow : List ℕ → List ℕ → ℕ → ℕ → Type 0
NoneBelow a b from to = (w : ℕ) → IsInBoth (members_of a) (members_of b) w → from ≤ w → w < to → ⊥

-- a number that is found in a word, where nobody below that is common, is the least of all
pub found_there : (a b : List ℕ) (base both from v : ℕ) → AreBoth a b base both → NoneBelow a b from base
    → v < 256 → IsFirst (HasBitFrom both base) from v → IsFirst (IsInBoth (members_of a) (members_of b)) from v
found_there a b base both from v are below lt (inr none) = absurd (omega (arith, lt, none.0))
found_there a b base both from v are below lt (inl found) = inl (
  lt,
  record {
    holds = member_there a b base both v are found.1.holds;
    high = found.1.high;
    first = λ w is le. elim (cases_lt w base) [
      | inl before ↦ absurd (below w is le before)
      | inr low ↦ elim (cases_lt w (base + 64)) [
        | inl high ↦ found.1.first w (bit_there a b base both w are low high is) le
        | inr after ↦ omega (arith, after, found.1.holds.high)
      ]
    ];
  },
)

-- where none is found in a word, nobody below its end is common
pub none_there : (a b : List ℕ) (base both from v : ℕ) → AreBoth a b base both → NoneBelow a b from base
    → 256 ≤ v → IsFirst (HasBitFrom both base) from v → NoneBelow a b from (base + 64)
none_there a b base both from v are below high (inl found) = absurd (omega (arith, high, found.0))
none_there a b base both from v are below high (inr none) = λ w is le lt. elim (cases_lt w base) [
  | inl before ↦ below w is le before
  | inr low ↦ none.1 w (bit_there a b base both w are low lt is) le
]

-- what the last word says is what all say, where nobody below it is common
pub first_of_all : (a b : List ℕ) (both from v : ℕ) → AreBoth a b 192 both → NoneBelow a b from 192
    → IsFirst (HasBitFrom both 192) from v → IsFirst (IsInBoth (members_of a) (members_of b)) from v
first_of_all a b both from v are below first = elim (cases_lt v 256) [
  | inl lt ↦ found_there a b 192 both from v are below lt first
  | inr high ↦ inr (
    nobody first high,
    λ w is le. none_there a b 192 both from v are below high first w is le (member_low a w is.one),
  )
]
  where
    nobody : IsFirst (HasBitFrom both 192) from v → 256 ≤ v → v ≡ 256
    nobody (inl found) high = absurd (omega (arith, high, found.0))
    nobody (inr none) high = none.0

-- the bits of both words at each place
pub both_at : (a b : List ℕ) (k : ℕ) → k < 4 → get_or a k 0 < 2 ^ 64
    → AreBoth a b (k * 64) (bit_and (get_or a k 0) (get_or b k 0))
both_at a b k low fits = λ i lt.
    (let word : k * 64 / 64 ≡ k = omega arith in
    let place : k * 64 % 64 ≡ 0 = omega arith in
    let common = common_bits a b (k * 64) i (omega (arith, low)) lt (rw word fits) in
    let same : bit_and (get_or a (k * 64 / 64) 0) (get_or b (k * 64 / 64) 0) / 2 ^ (k * 64 % 64)
    ≡ bit_and (get_or a k 0) (get_or b k 0) = rw (word, place) (omega arith) in (
      λ is. (common.0 (ap (λ n. bit_at n i) same ∙ is)).1,
      λ is. sym (ap (λ n. bit_at n i) same) ∙ common.1 (rw place (omega (arith, lt)), is),
    ))

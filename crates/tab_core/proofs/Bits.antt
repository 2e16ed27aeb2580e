-- Sets of vCPUs by their words: one bit for each truth value.
use Rattle.std.proofs.Common.{◌≡◌, ◌≢◌, ◌∙◌, ℕ, zero, suc, ◌+◌, ◌-◌, ◌*◌, ◌/◌, ◌%◌, ◌<◌, ◌≤◌, ◌^◌, ◌↔◌, Bool, false, true, eqb, not, ◌&&◌, List, [], ◌∷◌, length, get_or, set, replicate, refl, sym, ap, arith, inl, inr, w64, bit_and, bit_or, get_or-set_other, length-append}
use Rattle.std.proofs.lemmas.List.{same_lists, get_or_past, get_or-replicate, length-replicate}
use Rattle.std.proofs.lemmas.Bool.{cases_eq, cases_lt}
use Rattle.std.proofs.lemmas.Nat.{shr-shr, le_or_l, le_or_r}
use Rattle.std.proofs.Math.Nat.{eq-zero-or-pos}
use Rattle.std.specs.Prelude.{IsTrue, min}
use Rattle.std.proofs.Math.ListN.{length-set}
use Rattle.std.proofs.lemmas.Bool.Decides.{nat_tests}
use Rattle.std.proofs.lemmas.Grind.{common_steps, get_or-set_at, same_number_lists}
use Rattle.std.proofs.lemmas.Nat.Bits.{bit_at-zero, bit_at-lt, same_from_bits_below, bit_at_above, bit_at_and, bit_at_not, bit_at-trailing_zeros, bit_at_set_same, bit_at_set_other, bit_at_clear_same, bit_at_clear_other}
use Rattle.std.specs.Int.{bit_at, bit_not, trailing_zeros}
use Rattle.tab_core.specs.Least.{IsLeast}
use Rattle.tab_core.specs.VcpuSets.{IsInBoth, has_bit, has_vcpu, bits_below, members_of}

-- the truth values are as many as were asked for, so a set has 256
pub length-bits_below : (words : List ℕ) (n : ℕ) → length (bits_below words n) ≡ n
unfolding bits_below
length-bits_below words zero = refl
length-bits_below words (suc n) = length-append (bits_below words n) (has_bit words n ∷ [])
    ∙ omega (arith, length-bits_below words n)

-- each truth value is its bit
pub bits_below-at : (words : List ℕ) (n k : ℕ) (d : Bool) → k < n
    → get_or (bits_below words n) k d ≡ has_bit words k
unfolding bits_below
bits_below-at words zero k d lt = absurd (omega arith)
bits_below-at words (suc n) k d lt =
    let size = length-bits_below words n in
    elim (cases_eq k n) [
      | inl same ↦ grind (arith, common_steps, size)
      | inr other ↦ grind (arith, common_steps, size, bits_below-at words n k d)
    ]

-- a set is the list that has each of its bits
members_by_bits : (words : List ℕ) (set : List Bool) → length set ≡ 256
    → ((k : ℕ) (d : Bool) → k < 256 → get_or set k d ≡ has_bit words k) → members_of words ≡ set
members_by_bits words set size each =
    let all : length (bits_below words 256) ≡ 256 = length-bits_below words 256 in
    same_lists (members_of words) set (all ∙ sym size) (λ k d lt.
    let low : k < 256 = omega (arith, lt, all) in
    bits_below-at words 256 k d low ∙ sym (each k d low))

-- the words of an empty set have no bit
no_bit : (k : ℕ) → k < 256 → has_bit (0 ∷ 0 ∷ 0 ∷ 0 ∷ []) k ≡ false
no_bit k lt = grind (arith, common_steps, nat_tests, bit_at-zero (k % 64))

-- nobody is in the empty set, whose words have no bit
pub empty_members : members_of (0 ∷ 0 ∷ 0 ∷ 0 ∷ []) ≡ replicate 256 false
empty_members = members_by_bits _ _ (length-replicate 256 false)
    (λ k d lt. get_or-replicate 256 k false d lt ∙ sym (no_bit k lt))

-- one word was written: the bit of that number is this, and the others of its word are as before
bit_after : (words : List ℕ) (v word : ℕ) (value : Bool) → length words ≡ 4 → v < 256
    → eqb (bit_at word (v % 64)) 1 ≡ value
    → ((i : ℕ) → i < 64 → i ≢ v % 64 → bit_at word i ≡ bit_at (get_or words (v / 64) 0) i)
    → (k : ℕ) (d : Bool) → k < 256
    → get_or (set (members_of words) v value) k d ≡ has_bit (set words (v / 64) word) k
bit_after words v word value four lt here others k d low =
    let all : length (members_of words) ≡ 256 = length-bits_below words 256 in
    let in_words : v / 64 < length words = omega (arith, four) in
    elim (cases_eq k v) [
      | inl same ↦
          let written = get_or-set_at (members_of words) v k value d same (omega (arith, all)) in
          let read = get_or-set_at words (v / 64) (k / 64) word 0 (ap (λ n. n / 64) same) in_words in
          written ∙ sym (ap (λ w. eqb (bit_at w (k % 64)) 1) read
          ∙ ap (λ n. eqb (bit_at word (n % 64)) 1) same ∙ here)
      | inr other ↦
          let kept = get_or-set_other (members_of words) v k value d other in
          let before = kept ∙ bits_below-at words 256 k d low in
          elim (cases_eq (k / 64) (v / 64)) [
            | inl near ↦
                let read = get_or-set_at words (v / 64) (k / 64) word 0 near in_words in
                let apart : k % 64 ≢ v % 64 = λ e. other (omega (arith, e, near)) in
                let bit = others (k % 64) (omega arith) apart
                ∙ ap (λ n. bit_at (get_or words n 0) (k % 64)) (sym near) in
                before ∙ sym (ap (λ w. eqb (bit_at w (k % 64)) 1) read ∙ ap (λ b. eqb b 1) bit)
            | inr far ↦
                let read = get_or-set_other words (v / 64) (k / 64) word 0 far in
                before ∙ sym (ap (λ w. eqb (bit_at w (k % 64)) 1) read)
          ]
    ]

-- a word that differs in one bit changes one truth value
members_set : (words : List ℕ) (v word : ℕ) (value : Bool) → length words ≡ 4 → v < 256
    → eqb (bit_at word (v % 64)) 1 ≡ value
    → ((i : ℕ) → i < 64 → i ≢ v % 64 → bit_at word i ≡ bit_at (get_or words (v / 64) 0) i)
    → members_of (set words (v / 64) word) ≡ set (members_of words) v value
members_set words v word value four lt here others =
    members_by_bits _ _ (length-set (members_of words) v value ∙ length-bits_below words 256)
    (bit_after words v word value four lt here others)

-- as the word with a bit more, for `put`
pub members_put : (words : List ℕ) (v : ℕ) → length words ≡ 4 → v < 256
    → members_of (set words (v / 64) (bit_or (get_or words (v / 64) 0) (1 * 2 ^ (v % 64) % 2 ^ 64)))
    ≡ set (members_of words) v true
members_put words v four lt =
    members_set words v _ true four lt
    (ap (λ b. eqb b 1) (bit_at_set_same w64 (get_or words (v / 64) 0) (v % 64) (omega arith)))
    (λ i low other. bit_at_set_other w64 (get_or words (v / 64) 0) (v % 64)
    (omega arith) i other)

-- `take` leaves the members of the word with a bit less
pub members_take : (words : List ℕ) (v : ℕ) → length words ≡ 4 → v < 256
    → members_of
    (set words (v / 64) (bit_and (get_or words (v / 64) 0)
    (bit_not w64 (1 * 2 ^ (v % 64) % 2 ^ 64)))) ≡ set (members_of words) v false
members_take words v four lt =
    members_set words v _ false four lt
    (ap (λ b. eqb b 1) (bit_at_clear_same w64 (get_or words (v / 64) 0) (v % 64) (omega arith)))
    (λ i low other. bit_at_clear_other w64 (get_or words (v / 64) 0) (v % 64)
    (omega arith) i low other)

-- a bit is 0 or 1, so its truth value tells it
same_bit : (a b v : ℕ) → eqb (bit_at a v) 1 ≡ eqb (bit_at b v) 1 → bit_at a v ≡ bit_at b v
same_bit a b v same = let lt_a = bit_at-lt a v in let lt_b = bit_at-lt b v in grind (arith, nat_tests)

-- sets with the same members have the same words
pub same_members : (a b : List ℕ) → length a ≡ 4 → length b ≡ 4
    → ((i : ℕ) → get_or a i 0 < 2 ^ 64) → ((i : ℕ) → get_or b i 0 < 2 ^ 64)
    → members_of a ≡ members_of b → a ≡ b
same_members a b four_a four_b fits_a fits_b same =
    same_number_lists a b (four_a ∙ sym four_b) (λ k lt.
    same_from_bits_below 64 (get_or a k 0) (get_or b k 0) (fits_a k) (fits_b k) (λ i low.
    let v : (v : ℕ) × (v / 64 ≡ k) × (v % 64 ≡ i) × (v < 256) =
    (k * 64 + i, omega (arith, low), omega (arith, low), omega (arith, low, lt, four_a)) in
    let bit_a = bits_below-at a 256 v.0 false v.3 in
    let bit_b = bits_below-at b 256 v.0 false v.3 in
    let bits : has_bit a v.0 ≡ has_bit b v.0 = sym bit_a ∙ ap (λ set. get_or set v.0 false) same ∙ bit_b in
    let at_place = λ (words : List ℕ). ap (λ n. bit_at (get_or words n 0) (v.0 % 64)) v.1
    ∙ ap (λ n. bit_at (get_or words k 0) n) v.2 in
    sym (at_place a) ∙ same_bit _ _ _ bits ∙ at_place b))

-- members have numbers below 256
pub member_low : (words : List ℕ) (v : ℕ) → IsTrue (has_vcpu (members_of words) v) → v < 256
member_low words v is = elim (cases_lt v 256) [
  | inl lt ↦ lt
  | inr le ↦
      let none = get_or_past (members_of words) v false (omega (arith, le, length-bits_below words 256)) in
      absurd (cc)
]

-- a member has a bit that is 1
bit_of_member : (words : List ℕ) (v : ℕ) → IsTrue (has_vcpu (members_of words) v)
    → bit_at (get_or words (v / 64) 0) (v % 64) ≡ 1
bit_of_member words v is =
    let bit = bits_below-at words 256 v false (member_low words v is) in
    grind (arith, nat_tests)

-- whoever has a bit that is 1 is a member
member_of_bit : (words : List ℕ) (v : ℕ) → v < 256 → bit_at (get_or words (v / 64) 0) (v % 64) ≡ 1
    → IsTrue (has_vcpu (members_of words) v)
member_of_bit words v lt is = let bit = bits_below-at words 256 v false lt in grind (arith, nat_tests)

-- the lesser of two bits is 1 only where both are
both_one : (x y : ℕ) → x < 2 → y < 2 → (min x y ≡ 1) ↔ ((x ≡ 1) × (y ≡ 1))
both_one x y lt lt' = ((λ is. (omega arith, omega arith)), (λ both. omega (arith, both.0, both.1)))

-- the bits of both words from one on
shifted : (a b k i : ℕ) → bit_at (bit_and a b / 2 ^ k) i ≡ min (bit_at a (k + i)) (bit_at b (k + i))
shifted a b k i = ap (λ x. x % 2) (shr-shr (bit_and a b) k i) ∙ bit_at_and a b (k + i)

-- a bit of them is 1 where it is in the word, and its number is in both sets
pub common_bits : (a b : List ℕ) (at i : ℕ) → at < 256 → i < 64 → get_or a (at / 64) 0 < 2 ^ 64
    → (bit_at (bit_and (get_or a (at / 64) 0) (get_or b (at / 64) 0) / 2 ^ (at % 64)) i ≡ 1)
    ↔ ((i + at % 64 < 64) × IsInBoth (members_of a) (members_of b) (at + i))
common_bits a b at i lt low fits =
    let x = get_or a (at / 64) 0 in
    let y = get_or b (at / 64) 0 in
    let k = at % 64 in
    let bits = shifted x y k i in
    let ones = both_one (bit_at x (k + i)) (bit_at y (k + i)) (bit_at-lt x (k + i)) (bit_at-lt y (k + i)) in
    elim (cases_lt (k + i) 64) [
      | inl within ↦
          let word : (at + i) / 64 ≡ at / 64 = omega (arith, within) in
          let place : (at + i) % 64 ≡ k + i = omega (arith, within) in
          let one_of = λ (words : List ℕ). ap (λ n. bit_at (get_or words n 0) ((at + i) % 64)) word
          ∙ ap (bit_at (get_or words (at / 64) 0)) place in (
            λ is. (let both = ones.0 (sym bits ∙ is) in (
              omega (arith, within),
              record {
                one = member_of_bit a (at + i) (omega (arith, word, lt)) (one_of a ∙ both.0);
                other = member_of_bit b (at + i) (omega (arith, word, lt)) (one_of b ∙ both.1);
              },
            )),
            λ there. bits ∙ ones.1 (
              sym (one_of a) ∙ bit_of_member a (at + i) there.1.one,
              sym (one_of b) ∙ bit_of_member b (at + i) there.1.other,
            ),
          )
      | inr beyond ↦ (
        λ is.
            let both = ones.0 (sym bits ∙ is) in
            let none = bit_at_above x 64 (k + i) fits beyond in
            absurd (omega (arith, none, both.0)),
        λ there. absurd (omega (arith, there.0, beyond)),
      )
    ]

-- what is known of the bits of both from one on
abbrev pub AreCommon : List ℕ → List ℕ → ℕ → ℕ → Type 0
AreCommon a b at both = (i : ℕ) → i < 64 → (bit_at both i ≡ 1)
    ↔ ((i + at % 64 < 64) × IsInBoth (members_of a) (members_of b) (at + i))

-- the lowest of them is the least common member, where nobody below is one
pub lowest_common : (a b : List ℕ) (from at both : ℕ) → from ≤ at → 0 < both → both < 2 ^ 64
    → AreCommon a b at both
    → ((v : ℕ) → IsInBoth (members_of a) (members_of b) v → from ≤ v → v < at → ⊥)
    → IsLeast (IsInBoth (members_of a) (members_of b)) from (at + trailing_zeros w64 both)
lowest_common a b from at both le some fits are below =
    let t = trailing_zeros w64 both in
    let lowest = bit_at-trailing_zeros w64 both some fits in
    let found = (are t lowest.0).0 lowest.1 in
    record {
      holds = found.1;
      high = omega (arith, le);
      first = λ w q low. elim (cases_lt w at) [
        | inl lt ↦ absurd (below w q low lt)
        | inr high ↦ elim (cases_lt w (at + t)) [
          | inr after ↦ after
          | inl before ↦
              let i : (i : ℕ) × (at + i ≡ w) × (i < t) = (w - at, omega (arith, high), omega (arith, high, before)) in
              let one = (are i.0 (omega (arith, i.2, lowest.0))).1
              (omega (arith, i.2, found.0), rw i.1 q) in
              let none = lowest.2 i.0 i.2 in
              absurd (omega (arith, one, none))
        ]
      ];
    }

-- where no common bit is 1, nobody is common up to the end of the word
pub none_common : (a b : List ℕ) (from at both v : ℕ) → both ≡ 0 → AreCommon a b at both
    → ((v : ℕ) → IsInBoth (members_of a) (members_of b) v → from ≤ v → v < at → ⊥)
    → IsInBoth (members_of a) (members_of b) v → from ≤ v → v < (at / 64 + 1) * 64 → ⊥
none_common a b from at both v nothing are below q low lt = elim (cases_lt v at) [
  | inl before ↦ below v q low before
  | inr after ↦
      let i : (i : ℕ) × (at + i ≡ v) × (i + at % 64 < 64) = (v - at, omega (arith, after), omega (arith, after, lt)) in
      let one = (are i.0 (omega (arith, i.2))).1 (i.2, rw i.1 q) in
      let zero_bit : bit_at both i.0 ≡ 0 = ap (λ n. bit_at n i.0) nothing ∙ bit_at-zero i.0 in
      omega (arith, one, zero_bit)
]

-- a word with a bit of both tells of a common member
some_common : (a b : List ℕ) (at both : ℕ) → 0 < both → both < 2 ^ 64 → AreCommon a b at both
    → (v : ℕ) × IsInBoth (members_of a) (members_of b) v
some_common a b at both some fits are =
    let t = trailing_zeros w64 both in
    let lowest = bit_at-trailing_zeros w64 both some fits in
    (at + t, ((are t lowest.0).0 lowest.1).1)

-- what four words come to names a common member, if it isn't 0
pub common_of_words : (a b : List ℕ) (x y z w : ℕ) → x < 2 ^ 64 → y < 2 ^ 64 → z < 2 ^ 64 → w < 2 ^ 64
    → AreCommon a b 0 x → AreCommon a b 64 y → AreCommon a b 128 z → AreCommon a b 192 w
    → bit_or (bit_or x y) (bit_or z w) ≢ 0 → (v : ℕ) × IsInBoth (members_of a) (members_of b) v
common_of_words a b x y z w fits_x fits_y fits_z fits_w are_x are_y are_z are_w some =
    elim (eq-zero-or-pos x) [
      | inr pos ↦ some_common a b 0 x pos fits_x are_x
      | inl no_x ↦ elim (eq-zero-or-pos y) [
        | inr pos ↦ some_common a b 64 y pos fits_y are_y
        | inl no_y ↦ elim (eq-zero-or-pos z) [
          | inr pos ↦ some_common a b 128 z pos fits_z are_z
          | inl no_z ↦ elim (eq-zero-or-pos w) [
            | inr pos ↦ some_common a b 192 w pos fits_w are_w
            | inl no_w ↦ absurd (some (rw (no_x, no_y, no_z, no_w) refl))
          ]
        ]
      ]
    ]

-- where what four words come to is 0, nobody is common
pub none_of_words : (a b : List ℕ) (x y z w v : ℕ) → AreCommon a b 0 x → AreCommon a b 64 y
    → AreCommon a b 128 z → AreCommon a b 192 w → bit_or (bit_or x y) (bit_or z w) ≡ 0
    → IsInBoth (members_of a) (members_of b) v → ⊥
none_of_words a b x y z w v are_x are_y are_z are_w none q =
    let low : bit_or x y ≡ 0 = omega (arith, none, le_or_l (bit_or x y) (bit_or z w)) in
    let high : bit_or z w ≡ 0 = omega (arith, none, le_or_r (bit_or x y) (bit_or z w)) in
    let Below : ℕ → Type 0 = λ to. (v : ℕ) → IsInBoth (members_of a) (members_of b) v → 0 ≤ v → v < to → ⊥ in
    let first : Below 64 = λ v. none_common a b 0 0 x v (omega (arith, low, le_or_l x y)) are_x
    (λ v q le lt. omega (arith, lt)) in
    let second : Below 128 = λ v. none_common a b 0 64 y v (omega (arith, low, le_or_r x y)) are_y first in
    let third : Below 192 = λ v. none_common a b 0 128 z v (omega (arith, high, le_or_l z w)) are_z second in
    none_common a b 0 192 w v (omega (arith, high, le_or_r z w)) are_w third q (omega arith)
    (member_low a v q.one)

-- the words of one set less the bits of another
abbrev pub less : List ℕ → List ℕ → List ℕ
less a b = bit_and (get_or a 0 0) (bit_not w64 (get_or b 0 0))
    ∷ bit_and (get_or a 1 0) (bit_not w64 (get_or b 1 0))
    ∷ bit_and (get_or a 2 0) (bit_not w64 (get_or b 2 0))
    ∷ bit_and (get_or a 3 0) (bit_not w64 (get_or b 3 0)) ∷ []

-- each of the four words
less_word : (a b : List ℕ) (k : ℕ) → k < 4
    → get_or (less a b) k 0 ≡ bit_and (get_or a k 0) (bit_not w64 (get_or b k 0))
less_word a b zero lt = refl
less_word a b (suc zero) lt = refl
less_word a b (suc (suc zero)) lt = refl
less_word a b (suc (suc (suc zero))) lt = refl
less_word a b (suc (suc (suc (suc k)))) lt = absurd (omega arith)

-- has the bits of the one that the other hasn't
less_bit : (x y i : ℕ) → y < 2 ^ 64 → i < 64
    → eqb (bit_at (bit_and x (bit_not w64 y)) i) 1 ≡ (eqb (bit_at x i) 1 && not (eqb (bit_at y i) 1))
less_bit x y i fits low =
    let both = bit_at_and x (bit_not w64 y) i in
    let turned = bit_at_not w64 y i fits low in
    let lt = bit_at-lt x i in
    let lt' = bit_at-lt y i in
    grind (arith, nat_tests)

-- words with the bits of the one that the other hasn't are the set of the one's members that aren't
-- the other's
pub members_less : (a b : List ℕ) (v : ℕ) → ((i : ℕ) → get_or b i 0 < 2 ^ 64)
    → has_vcpu (members_of (less a b)) v ≡ (has_vcpu (members_of a) v && not (has_vcpu (members_of b) v))
members_less a b v fits = elim (cases_lt v 256) [
  | inl lt ↦
      let one = bits_below-at a 256 v false lt in
      let other = bits_below-at b 256 v false lt in
      let here = bits_below-at (less a b) 256 v false lt in
      let word = less_word a b (v / 64) (omega (arith, lt)) in
      let bit = less_bit (get_or a (v / 64) 0) (get_or b (v / 64) 0) (v % 64) (fits (v / 64)) (omega arith) in
      here ∙ (ap (λ w. eqb (bit_at w (v % 64)) 1) word ∙ (bit ∙ sym (rw (one, other) refl)))
  | inr le ↦
      let past = λ (words : List ℕ). get_or_past (members_of words) v false (omega (arith, le, length-bits_below words 256)) in
      past (less a b) ∙ sym (rw (past a) refl)
]

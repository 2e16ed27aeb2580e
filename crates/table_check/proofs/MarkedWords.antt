-- Marks of some ticks of a word: what they change.
use Rattle.std.proofs.Common.{◌≡◌, ◌≢◌, ◌∙◌, ℕ, ◌+◌, ◌*◌, ◌/◌, ◌%◌, ◌<◌, ◌≤◌, ◌^◌, ◌-◌, eqb, List, length, get_or, set, refl, sym, ap, arith, inl, inr, bit_and, bit_or, get_or-set_other}
use Rattle.std.proofs.Math.ListN.{length-set}
use Rattle.std.proofs.lemmas.Bool.{cases_eq, cases_lt}
use Rattle.std.proofs.lemmas.Bool.Decides.{nat_tests}
use Rattle.std.proofs.lemmas.Grind.{get_or-set_at}
use Rattle.std.proofs.lemmas.Nat.Bits.{bit_at-lt, bit_at-zero, bit_at_and, bit_at_or, bit_at_ones, bit_at_ones_above, bit_at_mask_inside, bit_at_mask_below, ones_shl, ones_shr}
use Rattle.std.specs.Int.{bit_at}
use Rattle.table_check.specs.declared.marks.TheConstants.{WORDS}
use Rattle.table_check.specs.Inside.Marks.{IsNewMark, KeepsMarks, is_marked}

-- ---- the bits from one on up to another

-- what the code computes for them
abbrev ones : ℕ → ℕ → ℕ
ones from to = bit_and ((2 ^ 64 - 1) * 2 ^ from % 2 ^ 64) ((2 ^ 64 - 1) / 2 ^ (64 - to))

-- below them no bit is 1
pub ones_below : (from to i : ℕ) → from < to → to ≤ 64 → i < from → bit_at (ones from to) i ≡ 0
ones_below from to i rises within low =
    let both = bit_at_and ((2 ^ 64 - 1) * 2 ^ from % 2 ^ 64) ((2 ^ 64 - 1) / 2 ^ (64 - to)) i in
    let none = ap (λ n. bit_at n i) (ones_shl 64 from (omega arith)) ∙ bit_at_mask_below from 64 i low in
    omega (arith, both, none)

-- among them each is
pub ones_inside : (from to i : ℕ) → from < to → to ≤ 64 → from ≤ i → i < to → bit_at (ones from to) i ≡ 1
ones_inside from to i rises within high low =
    let both = bit_at_and ((2 ^ 64 - 1) * 2 ^ from % 2 ^ 64) ((2 ^ 64 - 1) / 2 ^ (64 - to)) i in
    let one = ap (λ n. bit_at n i) (ones_shl 64 from (omega arith))
    ∙ bit_at_mask_inside from 64 i high (omega arith) in
    let other = ap (λ n. bit_at n i) (ones_shr 64 (64 - to) (omega arith))
    ∙ bit_at_ones (64 - (64 - to)) i (omega arith) in
    omega (arith, both, one, other)

-- the ones are none from their end on
pub ones_above : (from to i : ℕ) → from < to → to ≤ 64 → to ≤ i → bit_at (ones from to) i ≡ 0
ones_above from to i rises within high =
    let both = bit_at_and ((2 ^ 64 - 1) * 2 ^ from % 2 ^ 64) ((2 ^ 64 - 1) / 2 ^ (64 - to)) i in
    let none = ap (λ n. bit_at n i) (ones_shr 64 (64 - to) (omega arith))
    ∙ bit_at_ones_above (64 - (64 - to)) i (omega arith) in
    omega (arith, both, none)

-- ---- a word of the marks, with some ticks more

-- the marks with these ticks of the word at this place
abbrev pub with_ticks : List ℕ → ℕ → ℕ → List ℕ
with_ticks marks place ticks = set marks place (bit_or (get_or marks place 0) ticks)

-- the word that was written has the bits of both
word_there : (marks : List ℕ) (place ticks v x : ℕ) → place < length marks → v * WORDS + x / 64 ≡ place
    → bit_at (get_or (with_ticks marks place ticks) (v * WORDS + x / 64) 0) (x % 64)
    ≡ bit_at (bit_or (get_or marks (v * WORDS + x / 64) 0) ticks) (x % 64)
word_there marks place ticks v x lt here =
    ap (λ w. bit_at w (x % 64))
    (get_or-set_at marks place (v * WORDS + x / 64) (bit_or (get_or marks place 0) ticks) 0 here lt
    ∙ ap (λ p. bit_or (get_or marks p 0) ticks) (sym here))

-- a tick of another word is marked as before
pub elsewhere : (marks : List ℕ) (place ticks v x : ℕ) → v * WORDS + x / 64 ≢ place
    → is_marked (with_ticks marks place ticks) v x ≡ is_marked marks v x
elsewhere marks place ticks v x other =
    ap (λ w. eqb (bit_at w (x % 64)) 1)
    (get_or-set_other marks place (v * WORDS + x / 64) (bit_or (get_or marks place 0) ticks) 0 other)

-- a tick of the word that isn't among the ticks is marked as before
pub left_out : (marks : List ℕ) (place ticks v x : ℕ) → place < length marks → v * WORDS + x / 64 ≡ place
    → bit_at ticks (x % 64) ≡ 0 → is_marked (with_ticks marks place ticks) v x ≡ is_marked marks v x
left_out marks place ticks v x lt here none =
    let w = get_or marks (v * WORDS + x / 64) 0 in
    let bits = bit_at_or w ticks (x % 64) in
    let same : bit_at (bit_or w ticks) (x % 64) ≡ bit_at w (x % 64) = omega (arith, bits, none) in
    ap (λ b. eqb b 1) (word_there marks place ticks v x lt here ∙ same)

-- what is marked stays so
pub keeps_marks : (marks : List ℕ) (place ticks : ℕ) → place < length marks
    → KeepsMarks marks (with_ticks marks place ticks)
keeps_marks marks place ticks lt v x was = elim (cases_eq (v * WORDS + x / 64) place) [
  | inl here ↦
      let w = get_or marks (v * WORDS + x / 64) 0 in
      let bits = bit_at_or w ticks (x % 64) in
      let low = bit_at-lt ticks (x % 64) in
      let one : bit_at w (x % 64) ≡ 1 = grind (arith, nat_tests) in
      let still : bit_at (bit_or w ticks) (x % 64) ≡ 1 = omega (arith, bits, low, one) in
      ap (λ b. eqb b 1) (word_there marks place ticks v x lt here ∙ still)
  | inr other ↦ elsewhere marks place ticks v x other ∙ was
]

-- one of the ticks, of which none was marked, is marked now
pub newly_marked : (marks : List ℕ) (place ticks v x : ℕ) → place < length marks
    → v * WORDS + x / 64 ≡ place → bit_and (get_or marks place 0) ticks ≡ 0 → bit_at ticks (x % 64) ≡ 1
    → IsNewMark marks (with_ticks marks place ticks) v x
newly_marked marks place ticks v x lt here free one =
    let w = get_or marks (v * WORDS + x / 64) 0 in
    let low = bit_at-lt w (x % 64) in
    let both = bit_at_and w ticks (x % 64) in
    let none : bit_and w ticks ≡ 0 = ap (λ p. bit_and (get_or marks p 0) ticks) here ∙ free in
    let zero_bit : bit_at (bit_and w ticks) (x % 64) ≡ 0 =
    ap (λ n. bit_at n (x % 64)) none ∙ bit_at-zero (x % 64) in
    let was : bit_at w (x % 64) ≡ 0 = omega (arith, low, both, zero_bit, one) in
    let bits = bit_at_or w ticks (x % 64) in
    let now : bit_at (bit_or w ticks) (x % 64) ≡ 1 = omega (arith, bits, was, one) in
    record {
      was = ap (λ b. eqb b 1) was;
      now = ap (λ b. eqb b 1) (word_there marks place ticks v x lt here ∙ now);
    }

-- ---- a run of ticks, word by word

-- the vCPU's ticks from one on are marked up to this one, and those from there on are as they were
pub record IsRunMarked (old marks : List ℕ) (v from tick : ℕ) : Type 0 where
  pub size : length marks ≡ length old
  pub kept : KeepsMarks old marks
  pub later : (x : ℕ) → tick ≤ x → is_marked marks v x ≡ is_marked old v x
  pub marked : (x : ℕ) → from ≤ x → x < tick → IsNewMark old marks v x

-- none is yet
pub no_run : (marks : List ℕ) (v from : ℕ) → IsRunMarked marks marks v from from
no_run marks v from = record {
  size = refl;
  kept = λ w x is. is;
  later = λ x high. refl;
  marked = λ x high low. absurd (omega arith);
}

-- the marks of a word up to an end there are added
pub run_more : (old marks : List ℕ) (v from tick end place ticks : ℕ) → v * WORDS + tick / 64 ≡ place
    → place < length marks → tick < end → end ≤ (tick / 64 + 1) * 64
    → ((i : ℕ) → tick - tick / 64 * 64 ≤ i → i < end - tick / 64 * 64 → bit_at ticks i ≡ 1)
    → ((i : ℕ) → end - tick / 64 * 64 ≤ i → bit_at ticks i ≡ 0)
    → bit_and (get_or marks place 0) ticks ≡ 0 → IsRunMarked old marks v from tick
    → IsRunMarked old (with_ticks marks place ticks) v from end
run_more old marks v from tick end place ticks at lt rises within inside above free run =
    let keeps = keeps_marks marks place ticks lt in
    record {
      size = length-set marks place (bit_or (get_or marks place 0) ticks) ∙ run.size;
      kept = λ w x is. keeps w x (run.kept w x is);
      later = λ x high. elim (cases_eq (x / 64) (tick / 64)) [
        | inl same ↦
            left_out marks place ticks v x lt (omega (arith, same, at)) (above (x % 64) (omega (arith, same, high)))
            ∙ run.later x (omega (arith, rises, high))
        | inr ne ↦
            elsewhere marks place ticks v x (λ is. ne (omega (arith, is, at)))
            ∙ run.later x (omega (arith, rises, high))
      ];
      marked = λ x high low. elim (cases_lt x tick) [
        | inl before ↦
            let mark = run.marked x high before in
            record { was = mark.was; now = keeps v x mark.now }
        | inr after ↦
            let same : x / 64 ≡ tick / 64 = omega (arith, after, low, within) in
            let mark = newly_marked marks place ticks v x lt (omega (arith, same, at)) free
            (inside (x % 64) (omega (arith, same, after)) (omega (arith, same, low))) in
            record { was = sym (run.later x after) ∙ mark.was; now = mark.now }
      ];
    }

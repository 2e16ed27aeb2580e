-- The mask of some neighbouring actors.
use Rattle.std.proofs.Common.{◌≡◌, ◌≢◌, ℕ, ◌+◌, ◌*◌, ◌%◌, ◌^◌, ◌<◌, true, false, true≢false, refl, sym, ap, ◌∙◌, subst, arith, w64}
use Rattle.std.specs.Prelude.{bit_or}
use Rattle.std.proofs.lemmas.Nat.Bits.{bit_at-zero, bit_at_set_same, bit_at_set_other}
use mathlib.Core.Logic.{dite}
use native.Mathlib.Decide.{ℕ_discrete}
use Rattle.round_words.specs.Views.{names}
use Rattle.crew_turns.specs.Numbers.{NamesFrom}

-- of no actor, and of one more
pub named_none : (first : ℕ) → NamesFrom first 0 0
named_none first = record { there = λ c on. absurd (true≢false (sym on ∙ none c)); all = λ i lt. absurd (omega arith) }
  where
    none : (c : ℕ) → names 0 c ≡ false
    none c = rw (bit_at-zero c) refl

module _ (first n mask k : ℕ) where
  pub named_more : k < 32 → k ≡ first + n → NamesFrom first n mask → NamesFrom first (n + 1) (bit_or mask (1 * 2 ^ k % 18446744073709551616))
  named_more small is named = record {
    there = λ c on. dite (ℕ_discrete c k)
        (λ e. (n, omega arith, e ∙ is))
        (λ ne. let was = named.there c (sym (other c ne) ∙ on) in (was.0, omega (arith, was.1), was.2));
    all = λ i lt. dite (ℕ_discrete (first + i) k)
        (λ e. subst (λ (c : ℕ). names (bit_or mask (1 * 2 ^ k % 18446744073709551616)) c ≡ true) (sym e) here)
        (λ ne. other (first + i) ne ∙ named.all i (below i lt ne));
  }
    where
      here : names (bit_or mask (1 * 2 ^ k % 18446744073709551616)) k ≡ true
      here = rw (bit_at_set_same w64 mask k (omega arith)) refl

      other : (c : ℕ) → c ≢ k → names (bit_or mask (1 * 2 ^ k % 18446744073709551616)) c ≡ names mask c
      other c ne = rw (bit_at_set_other w64 mask k (omega arith) c ne) refl

      below : (i : ℕ) → i < n + 1 → first + i ≢ k → i < n
      below i lt ne = dite (ℕ_discrete i n) (λ e. absurd (ne (ap (λ (j : ℕ). first + j) e ∙ sym is))) (λ away. omega (arith, lt, away))

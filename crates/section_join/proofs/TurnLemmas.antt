-- What one more line adds, as the loops over lines have it.
use Rattle.std.proofs.Common.{◌≡◌, ℕ, suc, ◌+◌, ap, true, false, List, ◌∷◌, refl, arith, Option, Some, None}
use Rattle.std.specs.Option.{option_map}
use Rattle.section_join.specs.Mended.{first_cut, is_cut}

-- the first cut of the rest, counted after so many lines
abbrev pub behind : ℕ → Option ℕ → Option ℕ
behind n found = option_map (λ k. k + n) found

-- a line that is none
pub behind_more : (lines : List (List ℕ)) (line : List ℕ) (n : ℕ) → is_cut line ≡ false
    → behind n (first_cut (line ∷ lines)) ≡ behind (n + 1) (first_cut lines)
behind_more lines line n other = rw other (elim (first_cut lines) as (λ f. behind n (option_map suc f) ≡ behind (n + 1) f) [
  | None ↦ refl
  | Some k ↦ ap Some (omega arith)
])

-- a line that is one
pub behind_here : (lines : List (List ℕ)) (line : List ℕ) (n : ℕ) → is_cut line ≡ true
    → behind n (first_cut (line ∷ lines)) ≡ Some (n + 1)
behind_here lines line n is = rw is (ap Some (omega arith))

-- nothing was counted yet
pub behind-zero : (found : Option ℕ) → behind 0 found ≡ found
behind-zero None = refl
behind-zero (Some k) = ap Some (omega arith)

-- The table of periods: its entries are the divisors of the round that are at least 100, rising.
use Rattle.std.proofs.Common.{◌≡◌, ℕ, zero, suc, ◌*◌, ◌/◌, ◌≤◌, ◌<◌, Bool, true, not, ◌&&◌, ◌||◌, eqb, leb, List, [], ◌∷◌, refl, arith, get_or}
use Rattle.std.proofs.lemmas.List.Folds.{list_any_at}
use Rattle.std.proofs.lemmas.Bool.{cases_eq}
use Rattle.std.proofs.Common.{inl, inr}
use Rattle.std.specs.List.{list_any, list_all}
use Rattle.std.specs.Prelude.{IsTrue, length}
use Rattle.std.proofs.lemmas.Grind.{common_steps}
use Rattle.std.proofs.lemmas.Bool.Decides.{nat_tests}
use Rattle.tab_core.specs.declared.TheConstants.{PERIODS, ROUND}
use Rattle.tab_core.specs.Period.{is_period}

-- a number from 100 to a round that divides the round
unfoldable divides_round : ℕ → Bool
divides_round n = leb 100 n && (leb n ROUND && eqb (n * (ROUND / n)) ROUND)

-- a test that each element passes is passed by each element that is in the list
passed_by_listed : (p : ℕ → Bool) (t : ℕ) (xs : List ℕ) → list_all p xs ≡ true
    → list_any (λ x. eqb x t) xs ≡ true → p t ≡ true
passed_by_listed p t [] all any = grind arith
passed_by_listed p t (x ∷ xs) all any = grind (arith, common_steps, nat_tests, passed_by_listed p t xs)

-- every entry of the table of periods divides the round, by computing the test over the whole table
table_passes : list_all divides_round PERIODS ≡ true
unfolding divides_round
table_passes = refl

-- what is known of each period
pub record PeriodFacts (period : ℕ) : Type 0 where
  pub at_least : 100 ≤ period
  pub at_most : period ≤ 102600
  pub whole : period * (102600 / period) ≡ 102600

-- the test that is computed over the table, read as facts on numbers
facts_from_test : (t : ℕ) → divides_round t ≡ true → PeriodFacts t
unfolding divides_round
facts_from_test t h = record {
  at_least = grind (arith, nat_tests);
  at_most = grind (arith, nat_tests);
  whole = grind (arith, nat_tests);
}

-- each crate needs of a period that it is no shorter than 100 ticks, no longer than a round, and divides it
pub period_facts : (period : ℕ) → IsTrue (is_period period) → PeriodFacts period
unfolding is_period
period_facts t h = facts_from_test t (passed_by_listed divides_round t PERIODS table_passes (grind arith))

-- each number below n passes the test
below_pass : (ℕ → Bool) → ℕ → Bool
below_pass p zero = true
below_pass p (suc n) = p n && below_pass p n

-- a quotient of the round that is at least 100 is in the table
quotient_listed : ℕ → Bool
quotient_listed k = not (divides_round (102600 / k)) || is_period (102600 / k)

-- that the table has all divisors is computed over the quotients below 1027
quotients_listed : below_pass quotient_listed 1027 ≡ true
unfolding below_pass quotient_listed is_period divides_round
quotients_listed = refl

-- each entry is at most the next, computed over the list
rises : List ℕ → Bool
rises [] = true
rises (x ∷ xs) = list_all (λ y. leb x y) xs && rises xs

-- the table rises, computed over its entries
table_rises : rises PERIODS ≡ true
unfolding rises
table_rises = refl

-- in a rising list the first entry is at most each later one
first_is_least : (x : ℕ) (xs : List ℕ) (k : ℕ) → list_all (λ y. leb x y) xs ≡ true → k < length xs
    → x ≤ get_or xs k 0
first_is_least x [] k h lt = grind arith
first_is_least x (y ∷ ys) zero h lt = grind (arith, nat_tests, common_steps)
first_is_least x (y ∷ ys) (suc k) h lt = grind (arith, nat_tests, common_steps, first_is_least x ys k)

-- in a rising list each entry is at most each later one, by induction over its place
rises_at : (xs : List ℕ) (j k : ℕ) → rises xs ≡ true → j ≤ k → k < length xs → get_or xs j 0 ≤ get_or xs k 0
unfolding rises
rises_at [] j k h le lt = grind arith
rises_at (x ∷ xs) zero zero h le lt = omega arith
rises_at (x ∷ xs) zero (suc k) h le lt = grind (arith, common_steps, first_is_least x xs k)
rises_at (x ∷ xs) (suc j) zero h le lt = absurd (omega arith)
rises_at (x ∷ xs) (suc j) (suc k) h le lt = grind (arith, common_steps, rises_at xs j k)

-- a later entry of the table is no smaller
pub periods_rise : (j k : ℕ) → j ≤ k → k < 65 → get_or PERIODS j 0 ≤ get_or PERIODS k 0
periods_rise j k le lt = rises_at PERIODS j k table_rises le lt

-- what is in the table is a period
pub period_at : (k : ℕ) → k < 65 → IsTrue (is_period (get_or PERIODS k 0))
unfolding is_period
period_at k lt = list_any_at (λ x. eqb x (get_or PERIODS k 0)) PERIODS k 0 lt (grind (arith, nat_tests))

-- a list with an entry has a first place
lit_positive : (n : ℕ) → 0 < suc n
lit_positive n = omega arith

-- what a search through a list finds has a place there
place_in : (t : ℕ) (xs : List ℕ) → list_any (λ x. eqb x t) xs ≡ true
    → (k : ℕ) × (k < length xs) × (get_or xs k 0 ≡ t)
place_in t [] h = absurd (grind arith)
place_in t (x ∷ xs) h = elim (cases_eq x t) [
  | inl e ↦ (0, lit_positive (length xs), e)
  | inr ne ↦
      let later : list_any (λ y. eqb y t) xs ≡ true = grind (arith, common_steps, nat_tests) in
      let place = place_in t xs later in
      (suc place.0, omega (arith, place.1), place.2)
]

-- a period has a place in the table
pub place_of_period : (t : ℕ) → IsTrue (is_period t) → (k : ℕ) × (k < 65) × (get_or PERIODS k 0 ≡ t)
unfolding is_period
place_of_period t h = place_in t PERIODS h

-- the first of the facts alone, for the tactics
pub period_at_least : (period : ℕ) → IsTrue (is_period period) → 100 ≤ period
period_at_least t h = (period_facts t h).at_least

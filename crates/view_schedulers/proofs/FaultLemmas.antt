-- The first fault of some numbers.
use Rattle.std.proofs.Common.{◌≡◌, ℕ, zero, suc, ◌+◌, ◌-◌, ◌<◌, ◌≤◌, Option, Some, None, ap, refl, ◌∙◌, arith, add-one}
use Rattle.std.proofs.lemmas.Bool.{cases_lt}
use Rattle.std.proofs.Math.Logic.{⊎_elim}
use Rattle.std.specs.Option.{option_or}
use Rattle.view_schedulers.specs.declared.unkept.Unkept.{Unkept}
use Rattle.view_schedulers.specs.Unkept.{first_below}

-- below 0 there is no fault
pub first_below-zero : (fault : ℕ → Option Unkept) → first_below fault 0 ≡ None
unfolding first_below
first_below-zero fault = refl

-- one more number without a fault
pub none_more : (fault : ℕ → Option Unkept) (n : ℕ) → first_below fault n ≡ None → fault n ≡ None
    → first_below fault (n + 1) ≡ None
unfolding first_below
none_more fault n h g = ap (first_below fault) (add-one n) ∙ rw (h, g) refl

-- the first fault stays the first, however many numbers there are
first_stays : (fault : ℕ → Option Unkept) (n k : ℕ) (one : Unkept) → first_below fault n ≡ None
    → fault n ≡ Some one → first_below fault (suc n + k) ≡ Some one
unfolding first_below
first_stays fault n zero one h g =
    let plain : suc n + 0 ≡ suc n = omega arith in
    ap (first_below fault) plain ∙ rw (h, g) refl
first_stays fault n (suc k) one h g =
    let more : suc n + suc k ≡ suc (suc n + k) = omega arith in
    ap (first_below fault) more ∙ rw (first_stays fault n k one h g) refl

pub first_found : (fault : ℕ → Option Unkept) (n top : ℕ) (one : Unkept) → n < top
    → first_below fault n ≡ None → fault n ≡ Some one → first_below fault top ≡ Some one
first_found fault n top one low h g =
    let parts : top ≡ suc n + (top - suc n) = omega arith in
    ap (first_below fault) parts ∙ first_stays fault n (top - suc n) one h g

-- neither of two has a fault
pub neither : (o p : Option Unkept) → option_or o p ≡ None → (o ≡ None) × (p ≡ None)
neither None p h = (refl, h)
neither (Some fault) p h = absurd cc

-- where there is no first fault, no number has one
pub none_has : (fault : ℕ → Option Unkept) (top n : ℕ) → first_below fault top ≡ None → n < top
    → fault n ≡ None
unfolding first_below
none_has fault zero n h low = absurd (omega arith)
none_has fault (suc top) n h low =
    let parts = neither (first_below fault top) (fault top) h in
    ⊎_elim
    (λ (less : n < top). none_has fault top n parts.0 less)
    (λ (more : top ≤ n).
    let same : n ≡ top = omega arith in
    ap fault same ∙ parts.1)
    (cases_lt n top)

-- Stretches that are alike throughout, and stretches counted by another test.
use Rattle.std.proofs.Common.{◌≡◌, ℕ, zero, suc, ◌+◌, ◌-◌, ◌<◌, ◌≤◌, Bool, true, false, cond, refl, ap, sym, ◌∙◌, arith}
use Rattle.run_counts.specs.declared.stretch.Stretch.{Stretch}
use Rattle.run_counts.specs.Inside.Tells.{AllWait, Tells, passing}
use Rattle.run_counts.specs.Stretches.{all_offered, all_wait, joined, neither, offered_to}
use Rattle.run_counts.proofs.JoinLemmas.{tells_both}

-- a test as a number
abbrev one : Bool → ℕ
one b = cond b 1 0

-- a test gives one answer
differ : (b : Bool) → b ≡ true → b ≡ false → ⊥
differ b h g = cc

-- where no tick passes
none_pass : (test : ℕ → Bool) (from n : ℕ) → ((t : ℕ) → t < n → test (from + t) ≡ false)
    → passing test from n ≡ 0
unfolding passing
none_pass test from zero none = refl
none_pass test from (suc n) none =
    omega (
      arith,
      none_pass test from n (λ t lt. none t (omega arith)),
      off (test (from + n)) (none n (omega arith)),
    )
  where
    off : (b : Bool) → b ≡ false → one b ≡ 0
    off true h = absurd cc
    off false h = refl

-- where each passes
all_pass : (test : ℕ → Bool) (from n : ℕ) → ((t : ℕ) → t < n → test (from + t) ≡ true)
    → passing test from n ≡ n
unfolding passing
all_pass test from zero all = refl
all_pass test from (suc n) all =
    omega (
      arith,
      all_pass test from n (λ t lt. all t (omega arith)),
      on (test (from + n)) (all n (omega arith)),
    )
  where
    on : (b : Bool) → b ≡ true → one b ≡ 1
    on true h = refl
    on false h = absurd cc

-- where ticks pass two tests alike
pub same_pass : (test other : ℕ → Bool) (from at n : ℕ) → ((t : ℕ) → t < n → other (at + t) ≡ test (from + t))
    → passing other at n ≡ passing test from n
unfolding passing
same_pass test other from at zero same = refl
same_pass test other from at (suc n) same =
    (let last : one (other (at + n)) ≡ one (test (from + n)) = ap one (same n (omega arith)) in
    omega (arith, same_pass test other from at n (λ t lt. same t (omega arith)), last))

-- ticks that wait, and of which none is offered
pub tells_wait : (waits offered : ℕ → Bool) (from n : ℕ) → ((t : ℕ) → t < n → waits (from + t) ≡ true)
    → ((t : ℕ) → t < n → offered (from + t) ≡ false) → Tells waits offered from (all_wait n)
tells_wait waits offered from n wait none = record {
  small = record { offered = omega arith; lead = omega arith; tail = omega arith };
  count = sym (none_pass offered from n none);
  lead = wait;
  lead_ends = λ lt. absurd (omega arith);
  tail = λ t low lt. wait t lt;
  tail_begins = λ t at. absurd (omega arith);
  longest = λ t k within all. omega arith;
  place = 0;
  inside = omega arith;
  reached = λ t lt. (let e : from + t ≡ from + 0 + t = omega arith in ap waits (sym e) ∙ wait t lt);
}

-- ticks that don't wait
quiet : (waits offered : ℕ → Bool) (from n count : ℕ) → count ≤ n → count ≡ passing offered from n
    → ((t : ℕ) → t < n → waits (from + t) ≡ false)
    → Tells waits offered from (record { ticks = n; offered = count; lead = 0; tail = 0; most = 0 })
quiet waits offered from n count le is none = record {
  small = record { offered = le; lead = omega arith; tail = omega arith };
  count = is;
  lead = λ t lt. absurd (omega arith);
  lead_ends = λ lt. none 0 lt;
  tail = λ t low lt. absurd (omega arith);
  tail_begins = λ t at. none t (omega arith);
  longest = λ t k within all. none_here t k within all;
  place = 0;
  inside = omega arith;
  reached = λ t lt. absurd (omega arith);
}
  where
    none_here : (t k : ℕ) → t + k ≤ n → AllWait waits (from + t) k → k ≤ 0
    none_here t zero within all = omega arith
    none_here t (suc k) within all =
        let is : waits (from + t + 0) ≡ true = all 0 (omega arith) in
        let isnt : waits (from + t) ≡ false = none t (omega arith) in
        let e : from + t + 0 ≡ from + t = omega arith in
        absurd (differ (waits (from + t)) (ap waits (sym e) ∙ is) isnt)

-- ticks that are all offered, and none of which waits
pub tells_offered : (waits offered : ℕ → Bool) (from n : ℕ) → ((t : ℕ) → t < n → waits (from + t) ≡ false)
    → ((t : ℕ) → t < n → offered (from + t) ≡ true) → Tells waits offered from (all_offered n)
tells_offered waits offered from n none all =
    quiet waits offered from n n (omega arith) (sym (all_pass offered from n all)) none

-- ticks of which none waits or is offered
pub tells_neither : (waits offered : ℕ → Bool) (from n : ℕ) → ((t : ℕ) → t < n → waits (from + t) ≡ false)
    → ((t : ℕ) → t < n → offered (from + t) ≡ false) → Tells waits offered from (neither n)
tells_neither waits offered from n none no_offer =
    quiet waits offered from n 0 (omega arith) (sym (none_pass offered from n no_offer)) none

-- what is counted of ticks is so of ticks that pass other tests in the same way
pub tells_moved : (waits offered : ℕ → Bool) (from : ℕ) (waits' offered' : ℕ → Bool) (at : ℕ) (w : Stretch)
    → ((t : ℕ) → t < w.ticks → waits' (at + t) ≡ waits (from + t))
    → ((t : ℕ) → t < w.ticks → offered' (at + t) ≡ offered (from + t))
    → Tells waits offered from w → Tells waits' offered' at w
tells_moved waits offered from waits' offered' at w same same_offer tells = record {
  small = tells.small;
  count = tells.count ∙ sym (same_pass offered offered' from at w.ticks same_offer);
  lead = λ t lt. same t (omega (arith, tells.small.lead)) ∙ tells.lead t lt;
  lead_ends = λ lt. same w.lead lt ∙ tells.lead_ends lt;
  tail = λ t low lt. same t lt ∙ tells.tail t low lt;
  tail_begins = λ t is. same t (omega arith) ∙ tells.tail_begins t is;
  longest = λ t n within all. tells.longest t n within
      (λ u lt. moved t u (omega arith) (all u lt));
  place = tells.place;
  inside = tells.inside;
  reached = λ u lt. back tells.place u (omega (arith, tells.inside)) (tells.reached u lt);
}
  where
    moved : (t u : ℕ) → t + u < w.ticks → waits' (at + t + u) ≡ true → waits (from + t + u) ≡ true
    moved t u lt h =
        let e : at + t + u ≡ at + (t + u) = omega arith in
        let f : from + t + u ≡ from + (t + u) = omega arith in
        ap waits f ∙ (sym (same (t + u) lt) ∙ (ap waits' (sym e) ∙ h))

    back : (t u : ℕ) → t + u < w.ticks → waits (from + t + u) ≡ true → waits' (at + t + u) ≡ true
    back t u lt h =
        let e : at + t + u ≡ at + (t + u) = omega arith in
        let f : from + t + u ≡ from + (t + u) = omega arith in
        ap waits' e ∙ (same (t + u) lt ∙ (ap waits (sym f) ∙ h))

-- a stretch that goes on with waiting ticks up to `place`, and with offered ticks from there up to `end`
pub tells_offer : (waits offered : ℕ → Bool) (w : Stretch) (place end : ℕ) → Tells waits offered 0 w
    → w.ticks ≤ place → place ≤ end
    → ((x : ℕ) → w.ticks ≤ x → x < place → (waits x ≡ true) × (offered x ≡ false))
    → ((x : ℕ) → place ≤ x → x < end → (waits x ≡ false) × (offered x ≡ true))
    → Tells waits offered 0 (offered_to w place end)
tells_offer waits offered w place end tells low high wait offer =
    let gap = place - w.ticks in
    let before = tells_both waits offered 0 w (all_wait gap) tells
    (tells_wait waits offered (0 + w.ticks) gap
    (λ t lt. (wait (0 + w.ticks + t) (omega arith) (omega arith)).0)
    (λ t lt. (wait (0 + w.ticks + t) (omega arith) (omega arith)).1)) in
    tells_both waits offered 0 (joined w (all_wait gap)) (all_offered (end - place)) before
    (tells_offered waits offered (0 + (w.ticks + gap)) (end - place)
    (λ t lt. (offer (0 + (w.ticks + gap) + t) (omega arith) (omega arith)).0)
    (λ t lt. (offer (0 + (w.ticks + gap) + t) (omega arith) (omega arith)).1))

-- How the longest wait goes on from tick to tick, and over ticks in a row that are alike.
use Rattle.std.proofs.Common.{◌≡◌, ℕ, zero, suc, ◌+◌, ◌<◌, ◌≤◌, ◌∙◌, ap, sym, max, Bool, true, false, refl, arith, add-one}
use Rattle.view_table.specs.Waits.{longest, waited}

-- a tick with a slot ends the wait
pub waited-served : (served : ℕ → Bool) (x : ℕ) → served x ≡ true → waited served (x + 1) ≡ 0
unfolding waited
waited-served served x is = ap (waited served) (add-one x) ∙ rw is refl

-- another tick makes it longer
pub waited-more : (served : ℕ → Bool) (x : ℕ) → served x ≡ false → waited served (x + 1) ≡ waited served x + 1
unfolding waited
waited-more served x is = ap (waited served) (add-one x) ∙ (rw is (sym (add-one (waited served x))))

-- the longest so far
pub longest-more : (served : ℕ → Bool) (x : ℕ)
    → longest served (x + 1) ≡ max (longest served x) (waited served (x + 1))
unfolding longest
longest-more served x = ap (longest served) (add-one x) ∙ ap (λ n. max (longest served x) (waited served n)) (sym (add-one x))

-- before the first tick there is none
pub waited-zero : (served : ℕ → Bool) → waited served 0 ≡ 0
unfolding waited
waited-zero served = refl

pub longest-zero : (served : ℕ → Bool) → longest served 0 ≡ 0
unfolding longest
longest-zero served = refl

-- ticks without a slot after one that has a slot
pub waited_over : (served : ℕ → Bool) (a k : ℕ) → waited served a ≡ 0
    → ((x : ℕ) → a ≤ x → x < a + k → served x ≡ false)
    → (waited served (a + k) ≡ k) × (longest served (a + k) ≡ max (longest served a) k)
waited_over served a zero met none =
    let place : a + 0 ≡ a = omega arith in
    (rw place met, omega (arith, ap (longest served) place))
waited_over served a (suc k) met none =
    let before = waited_over served a k met (λ x low high. none x low (omega (arith, high))) in
    let now = waited-more served (a + k) (none (a + k) (omega arith) (omega arith)) in
    let most = longest-more served (a + k) in
    let place : a + suc k ≡ a + k + 1 = omega arith in
    (rw place (omega (arith, now, before.0)), rw place (omega (arith, most, now, before.0, before.1)))

-- ticks with a slot
pub served_over : (served : ℕ → Bool) (a k : ℕ) → ((x : ℕ) → a ≤ x → x < a + k → served x ≡ true)
    → (0 < k → waited served (a + k) ≡ 0) × (longest served (a + k) ≡ longest served a)
served_over served a zero all =
    let place : a + 0 ≡ a = omega arith in
    (λ none. absurd (omega (arith, none)), rw place refl)
served_over served a (suc k) all =
    let before = served_over served a k (λ x low high. all x low (omega (arith, high))) in
    let now = waited-served served (a + k) (all (a + k) (omega arith) (omega arith)) in
    let most = longest-more served (a + k) in
    let place : a + suc k ≡ a + k + 1 = omega arith in
    (λ some. rw place now, rw place (omega (arith, most, now, before.1)))

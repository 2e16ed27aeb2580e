-- The greatest wait between offers, across blocks of different tasks.
use Rattle.std.proofs.Common.{◌≡◌, ℕ, suc, ◌+◌, ◌-◌, ◌<◌, ◌≤◌, refl, arith, ⊎_elim}
use Rattle.std.proofs.lemmas.Bool.{cases_lt}
use Rattle.tab_core.specs.Sums.{total}
use Rattle.tab_core.proofs.Totals.{total-outside}

-- tick x lies in the block of length (span x) that begins at (base x) and has at least (cost x)
-- offers; the blocks tile the ticks from low to below top
pub record Blocks (f base span cost : ℕ → ℕ) (low top : ℕ) : Type 0 where
  pub one : (x : ℕ) → f x ≤ 1
  pub within : (x : ℕ) → low ≤ x → x < top → (base x ≤ x) × (x < base x + span x)
  pub cost_one : (x : ℕ) → low ≤ x → x < top → (1 ≤ cost x) × (cost x ≤ span x)
  pub offered : (x : ℕ) → low ≤ x → x < top → cost x ≤ total (λ t. f (base x + t)) (span x)
  pub same : (x y : ℕ) → low ≤ x → x < top → base x ≤ y → y < base x + span x → low ≤ y
      → (base y ≡ base x) × (span y ≡ span x) × (cost y ≡ cost x)
  pub next : (x y : ℕ) → low ≤ x → x < top → y ≡ base x + span x → y < top → base y ≡ y

-- in one block: no offer on [a, e) leaves at most the rest of the block
in_block : (f : ℕ → ℕ) (base span cost a e : ℕ) → ((x : ℕ) → f x ≤ 1)
    → cost ≤ total (λ t. f (base + t)) span → base ≤ a → a ≤ e → e ≤ base + span
    → ((x : ℕ) → a ≤ x → x < e → f x ≡ 0) → (e - a) + cost ≤ span
in_block f base span cost a e one offers low mid high none =
    let p = a - base in
    let q = e - a in
    let r = base + span - e in
    let parts : p + q + r ≡ span = omega arith in
    let most : total (λ t. f (base + t)) (p + q + r) ≤ p + r =
    total-outside (λ t. f (base + t)) p q r (λ k. one (base + k))
    (λ k h. none (base + (p + k)) (omega arith) (omega arith)) in
    let most' = rw parts at most in
    omega (arith, most', offers)

-- no offer from a up to l leaves no more than the rest of the blocks of a and l
pub gap : (f base span cost : ℕ → ℕ) (low top a l : ℕ) → Blocks f base span cost low top → low ≤ a
    → a ≤ l → l < top → ((x : ℕ) → a ≤ x → x < suc l → f x ≡ 0)
    → (suc l - a) + cost a + cost l ≤ span a + span l
gap f base span cost low top a l b low_a mid high none =
    let in_a = b.within a low_a (omega arith) in
    let cost_a = b.cost_one a low_a (omega arith) in
    let offers = b.offered a low_a (omega arith) in
    let y = base a + span a in
    ⊎_elim
    (λ (beyond : y < suc l).
    let at_y = b.next a y low_a (omega arith) refl (omega arith) in
    let low_y : low ≤ y = omega arith in
    let top_y : y < top = omega arith in
    let cost_y = b.cost_one y low_y top_y in
    let offers_y = b.offered y low_y top_y in
    let first : (y - a) + cost a ≤ span a =
    in_block f (base a) (span a) (cost a) a y b.one offers (omega arith) (omega arith)
    (omega arith) (λ x h i. none x h (omega arith)) in
    ⊎_elim
    (λ (whole : y + span y < suc l).
    let nothing : (y + span y - y) + cost y ≤ span y =
    in_block f (base y) (span y) (cost y) y (y + span y) b.one offers_y (omega arith)
    (omega arith) (omega arith) (λ x h i. none x (omega arith) (omega arith)) in
    absurd (omega arith))
    (λ (ends : suc l ≤ y + span y).
    let second : (suc l - y) + cost y ≤ span y =
    in_block f (base y) (span y) (cost y) y (suc l) b.one offers_y (omega arith)
    (omega arith) (omega arith) (λ x h i. none x (omega arith) i) in
    let at_l = b.same y l low_y top_y (omega arith) (omega arith) (omega arith) in
    omega (arith, at_l.1, at_l.2))
    (cases_lt (y + span y) (suc l)))
    (λ (inside : suc l ≤ y).
    let only : (suc l - a) + cost a ≤ span a =
    in_block f (base a) (span a) (cost a) a (suc l) b.one offers (omega arith)
    (omega arith) inside none in
    let at_l = b.same a l low_a (omega arith) (omega arith) (omega arith) (omega arith) in
    omega (arith, at_l.1, at_l.2))
    (cases_lt y (suc l))

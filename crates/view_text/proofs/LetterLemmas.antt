-- Who has the most ticks of a column.
use Rattle.std.proofs.Common.{arith, refl, ◌≡◌, ℕ, zero, suc, ◌+◌, ◌<◌, ◌≤◌}
use Rattle.std.proofs.lemmas.Grind.{common_steps}
use Rattle.view_text.specs.TextCharts.{leader}

-- it is one of them, or the first
pub leader_small : (ticks : ℕ → ℕ) (n : ℕ) → leader ticks n < n + 1
leader_small ticks zero = omega arith
leader_small ticks (suc n) =
    let rest = leader_small ticks n in
    grind (arith, common_steps, rest)

-- it goes by the ticks alone
pub leader_same : (one other : ℕ → ℕ) (n : ℕ) → n ≤ 256 → ((v : ℕ) → v < 256 → one v ≡ other v)
    → leader one n ≡ leader other n
leader_same one other zero few same = refl
leader_same one other (suc n) few same =
    let rest = leader_same one other n (omega (arith, few)) same in
    let low = leader_small other n in
    let at = same (leader other n) (omega (arith, few, low)) in
    let next = same n (omega (arith, few)) in
    rw (rest, at, next) refl

-- Numbers that are counted while a list of keys is written, and the places of keys.
use Rattle.std.proofs.Common.{arith, refl, ap, ◌≡◌, ◌≢◌, ℕ, zero, suc, ◌+◌, ◌/◌, ◌<◌, ◌≤◌, Bool, true, false, add-one}
use Rattle.std.specs.Prelude.{if◌then◌else◌}
use Rattle.view_svg.specs.Frames.{right_end}
use Rattle.view_svg.specs.Keys.{count_below, key_room, key_top, key_width, key_x}

-- one more number was met
pub count_more : (test : ℕ → Bool) (n k : ℕ) (taken : Bool) → taken ≡ test n → k ≡ count_below test n
    → k + (if taken then 1 else 0) ≡ count_below test (n + 1)
count_more test n k taken is so =
    let more : count_below test (n + 1) ≡ count_below test n + (if test n then 1 else 0) =
    ap (count_below test) (add-one n) in
    rw (more, is, so) refl

-- tests that agree below a number count the same there
pub count_same : (one other : ℕ → Bool) (most n : ℕ) → n ≤ most → ((v : ℕ) → v < most → one v ≡ other v)
    → count_below one n ≡ count_below other n
count_same one other most zero low same = refl
count_same one other most (suc n) low same =
    rw (count_same one other most n (omega (arith, low)) same, same n (omega (arith, low))) refl

-- ---- places

-- a place is right of the lane
pub key_right : (by_vcpu : Bool) (k : ℕ) → right_end + 1000 ≤ key_x by_vcpu k
key_right false k = omega arith
key_right true k = omega arith

-- it ends in the picture
pub key_within : (by_vcpu : Bool) (k : ℕ) → key_x by_vcpu k + key_width by_vcpu ≤ 150000
key_within false k = omega arith
key_within true k = omega arith

-- it is no lower than the gap below the lane
pub key_high : (by_vcpu : Bool) (y high k : ℕ) → 1000 ≤ high → k < key_room by_vcpu high
    → (y ≤ key_top by_vcpu y k) × (key_top by_vcpu y k + 800 ≤ y + high + high / 5)
key_high false y high k tall few = (omega arith, omega (arith, few))
key_high true y high k tall few = (omega arith, omega (arith, few))

-- of two places of a row the later one is right of the other
pub key_beside : (by_vcpu : Bool) (y k m : ℕ) → k < m → key_top by_vcpu y k ≡ key_top by_vcpu y m
    → key_x by_vcpu k + key_width by_vcpu ≤ key_x by_vcpu m
key_beside false y k m later alike = omega (arith, later, alike)
key_beside true y k m later alike = omega (arith, later, alike)

-- the next row is lower
pub key_below : (by_vcpu : Bool) (y k m : ℕ) → k < m → key_top by_vcpu y k ≢ key_top by_vcpu y m
    → key_top by_vcpu y k + 1000 ≤ key_top by_vcpu y m
key_below false y k m later other = omega (arith, later, other)
key_below true y k m later other = omega (arith, later, other)

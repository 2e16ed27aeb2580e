-- The most percent that a generated vCPU gets.
use Rattle.std.proofs.Common.{◌≡◌, ◌≢◌, ℕ, ◌+◌, ◌-◌, ◌*◌, ◌/◌, ◌≤◌, inl, inr, arith}
use Rattle.std.proofs.Math.Nat.{le-div_iff_mul-le, mul-div-le, mul-le-mul_left}
use Rattle.std.proofs.lemmas.Bool.{cases_eq}
use Rattle.std.proofs.lemmas.Bool.Decides.{nat_tests}
use Rattle.host_gen.specs.Generated.{most_percent}

-- what is shared among so many
abbrev part : ℕ → ℕ → ℕ
part cores vcpus = 100 * cores / (vcpus + cores - 1)

-- there is a percent for each vCPU
pub most_at_least : (cores vcpus : ℕ) → 1 ≤ cores → vcpus ≤ 99 * cores + 1 → 1 ≤ most_percent cores vcpus
most_at_least cores vcpus some shared = elim (cases_eq vcpus 0) [
  | inl none ↦ grind (arith, nat_tests)
  | inr many ↦
      (let divides : 1 ≤ vcpus + cores - 1 = omega arith in
      let quotient : 1 ≤ part cores vcpus =
      (le-div_iff_mul-le {k = vcpus + cores - 1} {x = 1} {y = 100 * cores} divides).1 (omega arith) in
      grind (arith, nat_tests))
]

-- but no more than the part
most_is_part : (cores vcpus : ℕ) → vcpus ≢ 0 → most_percent cores vcpus ≤ part cores vcpus
most_is_part cores vcpus many = grind (arith, nat_tests)

-- without a vCPU it is a whole core
most_without : (cores vcpus : ℕ) → vcpus ≡ 0 → most_percent cores vcpus ≡ 100
most_without cores vcpus none = grind (arith, nat_tests)

-- the cores are enough for as many vCPUs as there are, and for one more on each core but one
pub most_shared : (cores vcpus : ℕ) → 1 ≤ cores
    → (vcpus + cores - 1) * most_percent cores vcpus ≤ 100 * cores
most_shared cores vcpus some = elim (cases_eq vcpus 0) [
  | inl none ↦
      (let whole = most_without cores vcpus none in
      let others : vcpus + cores - 1 ≡ cores - 1 = omega arith in
      rw (whole, others) (omega arith))
  | inr many ↦
      (let least = mul-le-mul_left (vcpus + cores - 1) (most_is_part cores vcpus many) in
      let all = mul-div-le (100 * cores) (vcpus + cores - 1) in
      omega arith)
]

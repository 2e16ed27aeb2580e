-- Pieces of distinct vCPUs are at most as many as there are vCPUs, and as any others that they are among.
use Rattle.std.proofs.Common.{◌≡◌, ℕ, zero, suc, ◌+◌, ◌<◌, ◌≤◌, cond, eqb, ltb, List, [], ◌∷◌, length, slice_get, Some, refl, arith, sym, ap, ◌∙◌, inl, inr}
use Rattle.std.proofs.lemmas.Bool.{cases_Bool, cases_lt, eq-eqb, eqb-true, lt-ltb, ne_eqb}
use Rattle.std.proofs.lemmas.Bool.Decides.{nat_tests}
use Rattle.std.proofs.lemmas.Option.{none-some, same_Some}
use Rattle.tab_core.specs.declared.TheConstants.{MAX_VCPUS}
use Rattle.tab_core.specs.declared.piece.Piece.{Piece}
use Rattle.table_form.specs.Planning.Windows.{DistinctVcpus}
use Rattle.edf_table.proofs.Pieces.{tail_distinct}

-- how many pieces are of a vCPU below n, and of vCPU v
below : ℕ → List Piece → ℕ
below n [] = 0
below n (p ∷ ps) = cond (ltb p.vcpu n) 1 0 + below n ps

-- how many pieces are of vCPU v
of_vcpu : ℕ → List Piece → ℕ
of_vcpu v [] = 0
of_vcpu v (p ∷ ps) = cond (eqb p.vcpu v) 1 0 + of_vcpu v ps

-- no vCPU is below 0
below-zero : (ps : List Piece) → below 0 ps ≡ 0
unfolding below
below-zero [] = refl
below-zero (p ∷ ps) = let rest = below-zero ps in grind (arith, nat_tests)

-- a vCPU is below n + 1 where it is below n or is n
one_step : (v n : ℕ) → cond (ltb v (suc n)) 1 0 ≡ cond (ltb v n) 1 0 + cond (eqb v n) 1 0
one_step v n = grind (arith, nat_tests)

-- the pieces of vCPUs below n + 1 are those below n and those of n
below-suc : (n : ℕ) (ps : List Piece) → below (suc n) ps ≡ below n ps + of_vcpu n ps
unfolding below of_vcpu
below-suc n [] = refl
below-suc n (p ∷ ps) = omega (arith, below-suc n ps, one_step p.vcpu n)

-- no piece counts where none is of the vCPU
of_no_other : (v : ℕ) (ps : List Piece)
    → ((i : ℕ) (q : Piece) → slice_get ps i ≡ Some q → q.vcpu ≡ v → ⊥) → of_vcpu v ps ≡ 0
unfolding of_vcpu
of_no_other v [] other = refl
of_no_other v (p ∷ ps) other =
    let rest = of_no_other v ps (λ i q at. other (suc i) q at) in
    rw (ne_eqb p.vcpu v (other 0 p refl)) (omega arith)

-- at most one piece is of a vCPU where the vCPUs are distinct
of_one : (v : ℕ) (ps : List Piece) → DistinctVcpus ps → of_vcpu v ps ≤ 1
unfolding of_vcpu
of_one v [] apart = omega arith
of_one v (p ∷ ps) apart = elim (cases_Bool (eqb p.vcpu v)) [
  | inl same ↦
      (let none = of_no_other v ps (λ i q at e.
      (let place = apart 0 (suc i) p q refl at (eqb-true p.vcpu v same ∙ sym e) in omega arith)) in
      rw same (omega arith))
  | inr other ↦ rw other (omega (arith, of_one v ps (tail_distinct p ps apart)))
]

-- at most n pieces are of vCPUs below n
below_few : (n : ℕ) (ps : List Piece) → DistinctVcpus ps → below n ps ≤ n
below_few zero ps apart = omega (arith, below-zero ps)
below_few (suc n) ps apart = omega (arith, below-suc n ps, below_few n ps apart, of_one n ps apart)

-- each vCPU is below the greatest number
all_below : (ps : List Piece) → below MAX_VCPUS ps ≡ length ps
unfolding below
all_below [] = refl
all_below (p ∷ ps) = rw (lt-ltb p.vcpu MAX_VCPUS p.vcpu_small) (omega (arith, all_below ps))

-- the pigeonhole principle: each piece has a vCPU of its own
pub few_pieces : (ps : List Piece) → DistinctVcpus ps → length ps ≤ MAX_VCPUS
few_pieces ps apart = omega (arith, all_below ps, below_few MAX_VCPUS ps apart)

-- where a vCPU counts, a piece is of it
some_of : (v : ℕ) (ps : List Piece) → 0 < of_vcpu v ps
    → (i : ℕ) × (q : Piece) × (slice_get ps i ≡ Some q) × (q.vcpu ≡ v)
unfolding of_vcpu
some_of v [] some = absurd (omega (arith, some))
some_of v (p ∷ ps) some = elim (cases_Bool (eqb p.vcpu v)) [
  | inl same ↦ (0, p, refl, eqb-true p.vcpu v same)
  | inr other ↦
      (let none : cond {A = ℕ} (eqb p.vcpu v) 1 0 ≡ 0 = rw other refl in
      let there = some_of v ps (omega (arith, some, none)) in
      (suc there.0, there.1, there.2, there.3))
]

-- a piece of the vCPU counts as one of it
of_some : (v i : ℕ) (ps : List Piece) (q : Piece) → slice_get ps i ≡ Some q → q.vcpu ≡ v → 1 ≤ of_vcpu v ps
unfolding of_vcpu
of_some v i [] q at is = absurd (none-some q at)
of_some v zero (p ∷ ps) q at is =
    let same : p.vcpu ≡ v = ap (λ (x : Piece). x.vcpu) (same_Some _ _ at) ∙ is in
    rw (eq-eqb p.vcpu v same) (omega arith)
of_some v (suc i) (p ∷ ps) q at is = omega (arith, of_some v i ps q at is)

-- each of the first pieces is one of the others
abbrev pub AreAmong : List Piece → List Piece → Type 0
AreAmong qs ps = (i : ℕ) (q : Piece) → slice_get qs i ≡ Some q → (k : ℕ) × (slice_get ps k ≡ Some q)

-- no more pieces of a vCPU are among the first than among the others
of_among : (v : ℕ) (qs ps : List Piece) → DistinctVcpus qs → AreAmong qs ps → of_vcpu v qs ≤ of_vcpu v ps
of_among v qs ps apart among = elim (cases_lt 0 (of_vcpu v qs)) [
  | inl some ↦
      (let q = some_of v qs some in
      let there = among q.0 q.1 q.2 in
      omega (arith, of_one v qs apart, of_some v there.0 ps q.1 there.1 q.3))
  | inr none ↦ omega arith
]

-- no more pieces of vCPUs below n are among the first than among the others
below_among : (n : ℕ) (qs ps : List Piece) → DistinctVcpus qs → AreAmong qs ps → below n qs ≤ below n ps
below_among zero qs ps apart among = omega (arith, below-zero qs, below-zero ps)
below_among (suc n) qs ps apart among = omega (
  arith,
  below-suc n qs,
  below-suc n ps,
  below_among n qs ps apart among,
  of_among n qs ps apart among,
)

-- pieces of distinct vCPUs that are all among others are no more than these
pub fewer_pieces : (qs ps : List Piece) → DistinctVcpus qs → AreAmong qs ps → length qs ≤ length ps
fewer_pieces qs ps apart among =
    omega (arith, all_below qs, all_below ps, below_among MAX_VCPUS qs ps apart among)

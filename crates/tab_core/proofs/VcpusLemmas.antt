-- Sets of a host's vCPUs, made one vCPU after the other.
use Rattle.std.proofs.Common.{◌≡◌, ℕ, suc, ◌+◌, ◌-◌, ◌<◌, ◌≤◌, Bool, false, List, [], ◌∷◌, ◌++◌, length, get_or, set, map, replicate, take, ap, sym, ◌∙◌, arith}
use Rattle.std.proofs.Math.Seq.{take-length, take-suc, set-append_seam}
use Rattle.std.proofs.lemmas.List.{append_assoc, length-map, length-take-le, map-append}
use Rattle.tab_core.specs.declared.TheConstants.{MAX_VCPUS}
use Rattle.tab_core.specs.declared.vcpu.Vcpu.{Vcpu}
use Rattle.tab_core.specs.Vcpus.{set_where}

-- the first n vCPUs that have the property, and none after them
abbrev pub first_where : (Vcpu → Bool) → List Vcpu → ℕ → List Bool
first_where has vcpus n = map has (take n vcpus) ++ replicate (MAX_VCPUS - n) false

-- one flag set is one more before those that aren't
one_flag : (flags : List Bool) (n rest : ℕ) (flag : Bool) → length flags ≡ n
    → set (flags ++ replicate (suc rest) false) n flag
    ≡ (flags ++ flag ∷ []) ++ replicate rest false
one_flag flags n rest flag size =
    ap (λ k. set (flags ++ replicate (suc rest) false) k flag) (sym size)
    ∙ set-append_seam flags false (replicate rest false) flag
    ∙ sym (append_assoc flags (flag ∷ []) (replicate rest false))

-- the loop's step: one vCPU more
pub one_more : (has : Vcpu → Bool) (vcpus : List Vcpu) (n : ℕ) (vcpu : Vcpu) → n < length vcpus
    → length vcpus ≤ MAX_VCPUS → vcpu ≡ get_or vcpus n vcpu →
    set (first_where has vcpus n) n (has vcpu) ≡ first_where has vcpus (n + 1)
one_more has vcpus n vcpu lt few is =
    let rest : ℕ = MAX_VCPUS - (n + 1) in
    let left : MAX_VCPUS - n ≡ suc rest = omega arith in
    let before : List Bool = map has (take n vcpus) in
    let size : length before ≡ n =
    length-map (take n vcpus) has ∙ length-take-le n vcpus (omega arith) in
    let next : n + 1 ≡ suc n = omega arith in
    let more : map has (take (n + 1) vcpus) ≡ before ++ has vcpu ∷ [] =
    ap (λ k. map has (take k vcpus)) next
    ∙ ap (map has) (take-suc vcpus n vcpu lt)
    ∙ map-append has (take n vcpus) (get_or vcpus n vcpu ∷ [])
    ∙ ap (λ (v : Vcpu). before ++ has v ∷ []) (sym is) in
    ap (λ k. set (before ++ replicate k false) n (has vcpu)) left
    ∙ one_flag before n rest (has vcpu) size
    ∙ ap (λ flags. flags ++ replicate rest false) (sym more)

-- after the last vCPU the set is that of the definition
pub all_where : (has : Vcpu → Bool) (vcpus : List Vcpu)
    → first_where has vcpus (length vcpus) ≡ set_where has vcpus
all_where has vcpus =
    ap (λ (vs : List Vcpu). map has vs ++ replicate (MAX_VCPUS - length vcpus) false) (take-length vcpus)

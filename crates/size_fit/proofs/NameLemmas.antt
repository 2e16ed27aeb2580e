-- The names by number are names, and differ.
use Rattle.std.proofs.Common.{◌≡◌, ℕ, ◌+◌, ◌%◌, ◌^◌, ◌<◌, ◌≤◌, true, List, [], ◌∷◌, ◌++◌, length, decimal, inl, inr, sym, ◌∙◌, arith}
use Rattle.std.specs.List.{list_all}
use Rattle.std.proofs.lemmas.Bool.Decides.{nat_tests}
use Rattle.std.proofs.lemmas.Fmt.{decimal_by_steps, decimal_injective, decimal_nonempty, length-decimal-le}
use Rattle.std.proofs.lemmas.List.Folds.{list_all-append}
use Rattle.std.proofs.lemmas.Option.{slice_get_within}
use Rattle.tab_core.proofs.Lists.{push_split}
use Rattle.tab_core.specs.Name.{IsName, is_byte_of_name}
use Rattle.tab_core.specs.Vcpus.{HaveDistinctNames}
use Rattle.tab_core.specs.declared.vcpu.Vcpu.{Vcpu}
use Rattle.size_fit.specs.Inside.Numbered.{AreNumbered, number_name}

-- digits are bytes of a name
digits_named : (n : ℕ) → n < 2 ^ 64 → list_all is_byte_of_name (decimal n) ≡ true
digits_named = decimal_by_steps (λ n ds. list_all is_byte_of_name ds ≡ true)
    (λ n low. digit n low)
    (λ n ds high front. list_all-append is_byte_of_name ds ((48 + n % 10) ∷ [])
    ∙ (rw front (digit (n % 10) (omega arith))))
  where
    digit : (n : ℕ) → n < 10 → list_all is_byte_of_name ((48 + n) ∷ []) ≡ true
    digit n low = grind (arith, nat_tests)

-- a name by number is a name
pub is_good_name : (number : ℕ) → number < 256 → IsName (number_name number)
is_good_name number low =
    let wide : number < 2 ^ 64 = omega arith in
    let digits = digits_named number wide in
    let some = decimal_nonempty number wide in
    let few : length (decimal number) ≤ 3 = length-decimal-le 3 number (omega arith) (omega arith) wide in
    grind (arith, nat_tests)

-- where there is none, none is named otherwise
pub none_numbered : (vcpus : List Vcpu) → vcpus ≡ [] → AreNumbered vcpus
none_numbered vcpus none = rw none (λ number vcpu at. absurd (cc))

-- one more, named by its number
pub numbered_next : (vcpus : List Vcpu) (vcpu : Vcpu) → AreNumbered vcpus → vcpu.name ≡ number_name (length vcpus)
    → AreNumbered (vcpus ++ vcpu ∷ [])
numbered_next vcpus vcpu before named k other at =
    elim (push_split vcpus k vcpu other at) [
      | inl old ↦ before k other old
      | inr new ↦ rw (new.0, ← new.1) named
    ]

-- names of different numbers differ
same_number : (j k : ℕ) → j < 256 → k < 256 → number_name j ≡ number_name k → j ≡ k
same_number j k low high same =
    let digits : decimal j ≡ decimal k = cc in
    decimal_injective j k (omega arith) (omega arith) digits

-- no two vCPUs have one name
pub distinct : (vcpus : List Vcpu) → length vcpus ≤ 256 → AreNumbered vcpus → HaveDistinctNames vcpus
distinct vcpus few are j k a b at_j at_k same =
    let low = slice_get_within vcpus j a at_j in
    let high = slice_get_within vcpus k b at_k in
    same_number j k (omega arith) (omega arith) (sym (are j a at_j) ∙ (same ∙ are k b at_k))

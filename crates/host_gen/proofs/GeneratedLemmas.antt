-- The vCPUs of a generated host, one after the other, and their names.
use Rattle.std.proofs.Common.{◌≡◌, ℕ, suc, ◌+◌, ◌%◌, ◌^◌, ◌<◌, ◌≤◌, true, false, cond, List, [], ◌∷◌, ◌++◌, length, decimal, get_or, slice_get, Option, Some, None, IsSomeAnd, inl, inr, refl, ap, subst, sym, ◌∙◌, arith}
use Rattle.std.specs.Prelude.{IsSome}
use Rattle.std.specs.List.{count_by, list_all}
use Rattle.std.proofs.lemmas.Bool.Decides.{nat_tests}
use Rattle.std.proofs.lemmas.Fmt.{decimal_by_steps, decimal_injective, decimal_nonempty, length-decimal-le}
use Rattle.std.proofs.lemmas.List.{same_lists}
use Rattle.std.proofs.lemmas.List.Folds.{list_all-append}
use Rattle.std.proofs.lemmas.List.Sums.{sum_by-cons}
use Rattle.std.proofs.lemmas.Option.{slice_get-get_or, slice_get_cases}
use Rattle.tab_core.proofs.Alike.{same_host, same_reservation, same_vcpu}
use Rattle.tab_core.proofs.Lists.{push_split}
use Rattle.tab_core.specs.Name.{IsName, is_byte_of_name}
use Rattle.tab_core.specs.Vcpus.{HaveDistinctNames}
use Rattle.tab_core.specs.declared.host.Host.{Host}
use Rattle.tab_core.specs.declared.reservation.Reservation.{Reservation}
use Rattle.tab_core.specs.declared.vcpu.Vcpu.{Vcpu}
use Rattle.host_gen.specs.Generated.{AreGenerated, IsGenerated, IsGeneratedReservation, IsGeneratedVcpu, generated_name, most_percent, percent_of, period_of}
use Rattle.host_gen.specs.GeneratorWords.{first_word, generator_state_at, second_word, state_after, state_of_seed}
use Rattle.host_gen.specs.HostText.{AreAdmitted}

-- ---- the generator's states

-- before the first vCPU the state is the seed's
pub state_at-zero : (seed : ℕ) → generator_state_at seed 0 ≡ state_of_seed seed
unfolding generator_state_at
state_at-zero seed = refl

-- each vCPU takes two words
pub state_at-more : (seed number : ℕ)
    → generator_state_at seed (number + 1) ≡ state_after (state_after (generator_state_at seed number))
unfolding generator_state_at
state_at-more seed number = let next : number + 1 ≡ suc number = omega arith in ap (generator_state_at seed) next

-- ---- names

-- digits are bytes of a name
digits_named : (n : ℕ) → n < 2 ^ 64 → list_all is_byte_of_name (decimal n) ≡ true
digits_named = decimal_by_steps (λ n ds. list_all is_byte_of_name ds ≡ true)
    (λ n low. digit n low)
    (λ n ds high front. list_all-append is_byte_of_name ds ((48 + n % 10) ∷ [])
    ∙ (rw front (digit (n % 10) (omega arith))))
  where
    digit : (n : ℕ) → n < 10 → list_all is_byte_of_name ((48 + n) ∷ []) ≡ true
    digit n low = grind (arith, nat_tests)

-- each generated name is a name
pub is_good_name : (number : ℕ) → number < 256 → IsName (generated_name number)
is_good_name number low =
    let wide : number < 2 ^ 64 = omega arith in
    let digits = digits_named number wide in
    let some = decimal_nonempty number wide in
    let few : length (decimal number) ≤ 3 = length-decimal-le 3 number (omega arith) (omega arith) wide in
    grind (arith, nat_tests)

-- ---- vCPUs one after the other

-- where there is none, none is another's
pub generated_none : (seed most : ℕ) (vcpus : List Vcpu) → vcpus ≡ [] → AreGenerated seed most vcpus
generated_none seed most vcpus none = rw none (λ number vcpu at. absurd (cc))

-- a vCPU of these words
pub with_words : (most number first second word next : ℕ) (vcpu : Vcpu) → word ≡ first → next ≡ second
    → IsGeneratedVcpu most number word next vcpu → IsGeneratedVcpu most number first second vcpu
with_words most number first second word next vcpu is after made =
    subst (λ w. IsGeneratedVcpu most number w second vcpu) is
    (subst (λ w. IsGeneratedVcpu most number word w vcpu) after made)

-- one more vCPU of the seed
pub generated_next : (seed most number : ℕ) (vcpus : List Vcpu) (vcpu : Vcpu) → length vcpus ≡ number
    → AreGenerated seed most vcpus
    → IsGeneratedVcpu most number (first_word seed number) (second_word seed number) vcpu
    → AreGenerated seed most (vcpus ++ vcpu ∷ [])
generated_next seed most number vcpus vcpu size before next k other at =
    elim (push_split vcpus k vcpu other at) [
      | inl old ↦ before k other old
      | inr new ↦
          (let here : number ≡ k = sym (new.0 ∙ size) in
          subst (λ v. IsGeneratedVcpu most k (first_word seed k) (second_word seed k) v) new.1
          (subst (λ n. IsGeneratedVcpu most n (first_word seed n) (second_word seed n) vcpu) here next))
    ]

-- names of different numbers differ
same_number : (j k : ℕ) → j < 256 → k < 256 → generated_name j ≡ generated_name k → j ≡ k
same_number j k low high same =
    let digits : decimal j ≡ decimal k = cc in
    decimal_injective j k (omega arith) (omega arith) digits

-- no two vCPUs of a seed have one name
pub distinct : (seed most : ℕ) (vcpus : List Vcpu) → length vcpus ≤ 256 → AreGenerated seed most vcpus
    → HaveDistinctNames vcpus
distinct seed most vcpus few are j k a b at_j at_k same =
    let low = within j a at_j in
    let high = within k b at_k in
    same_number j k low high (sym (are j a at_j).name ∙ (same ∙ (are k b at_k).name))
  where
    within : (i : ℕ) (x : Vcpu) → slice_get vcpus i ≡ Some x → i < 256
    within i x at = elim (slice_get_cases vcpus i).1 [
      | inl found ↦ (let lt = found.1 in omega arith)
      | inr past ↦ (let none = past.1 in absurd (cc))
    ]

-- each vCPU of a seed is admitted
pub admitted : (seed most : ℕ) (vcpus : List Vcpu) → AreGenerated seed most vcpus → AreAdmitted vcpus
admitted seed most vcpus are = λ k d low.
    some _ _ (get_or vcpus k d).reservation
    (are k (get_or vcpus k d) (slice_get-get_or vcpus k d low)).reservation
  where
    some : (percent period : ℕ) (reservation : Option Reservation)
        → IsSomeAnd reservation (IsGeneratedReservation percent period) → IsSome reservation
    some percent period None is = absurd is
    some percent period (Some r) is = refl

-- no vCPU of a seed is capped
pub none_capped : (seed most : ℕ) (vcpus : List Vcpu) → AreGenerated seed most vcpus
    → count_by (λ vcpu. vcpu.capped) vcpus ≡ 0
none_capped seed most vcpus are = uncapped vcpus (λ k vcpu at. (are k vcpu at).capped)
  where
    uncapped : (vs : List Vcpu) → ((k : ℕ) (v : Vcpu) → slice_get vs k ≡ Some v → v.capped ≡ false)
        → count_by (λ v. v.capped) vs ≡ 0
    uncapped [] none = refl
    uncapped (v ∷ vs) none =
        let first : ◌≡◌ {A = ℕ} (cond v.capped 1 0) 0 = ap {B = ℕ} (λ b. cond b 1 0) (none 0 v refl) in
        omega (
          arith,
          sum_by-cons (λ (w : Vcpu). cond w.capped 1 0) v vs,
          first,
          uncapped vs (λ k. none (suc k)),
        )

-- ---- one host

-- two reservations of the same numbers are one
one_reservation : (percent period : ℕ) (r s : Option Reservation)
    → IsSomeAnd r (IsGeneratedReservation percent period) → IsSomeAnd s (IsGeneratedReservation percent period) → r ≡ s
one_reservation percent period None s of_r of_s = absurd of_r
one_reservation percent period (Some r) None of_r of_s = absurd of_s
one_reservation percent period (Some r) (Some s) of_r of_s =
    ap Some (same_reservation r s (of_r.share ∙ sym of_s.share) (of_r.latency ∙ sym of_s.latency))

-- two vCPUs of the same words are one
one_vcpu : (most number first second : ℕ) (a b : Vcpu) → IsGeneratedVcpu most number first second a
    → IsGeneratedVcpu most number first second b → a ≡ b
one_vcpu most number first second a b of_a of_b = same_vcpu a b (of_a.name ∙ sym of_b.name)
    (one_reservation (percent_of most first) (period_of second) a.reservation b.reservation of_a.reservation
    of_b.reservation)
    (of_a.runnable ∙ sym of_b.runnable) (of_a.capped ∙ sym of_b.capped)

-- the law of one host, vCPU by vCPU
pub one_host : (seed cores vcpus : ℕ) (host other : Host) → IsGenerated seed cores vcpus host
    → IsGenerated seed cores vcpus other → host ≡ other
one_host seed cores vcpus host other of_host of_other =
    let size = of_host.as_many in
    let as_many = of_other.as_many in
    same_host host other (of_host.tick_ns ∙ sym of_other.tick_ns)
    (of_host.cores_are ∙ sym of_other.cores_are) (of_host.lag ∙ sym of_other.lag)
    (of_host.sliver ∙ sym of_other.sliver) (of_host.quantum ∙ sym of_other.quantum)
    (same_lists host.vcpus other.vcpus (size ∙ sym as_many) (λ k d low.
    let low' : k < length other.vcpus = omega arith in
    one_vcpu (most_percent cores vcpus) k (first_word seed k) (second_word seed k)
    (get_or host.vcpus k d) (get_or other.vcpus k d)
    (of_host.each k (get_or host.vcpus k d) (slice_get-get_or host.vcpus k d low))
    (of_other.each k (get_or other.vcpus k d) (slice_get-get_or other.vcpus k d low'))))

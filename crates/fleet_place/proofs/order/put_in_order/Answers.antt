use Rattle.std.proofs.Common.{◌≡◌, ℕ, ◌+◌, ◌-◌, ◌<◌, ◌≤◌, List, Some, ap, arith, get_or, length, rules, subst, sym, ◌∙◌}
use Rattle.std.specs.Prelude.{slice_get}
use Rattle.std.specs.List.Sorted.{IsNonDecreasingBy}
use Rattle.std.proofs.lemmas.List.Sorted.{answers_always, IsNonDecreasingBy-from_sort_by_key, IsPermutation-trans, ties_still_rise}
use Rattle.std.proofs.lemmas.Option.{get_or_from_slice_get, slice_get_within}
use Rattle.fleet_place.specs.Order.{IsNoLater}
use Rattle.fleet_place.specs.declared.vm.Vm.{Vm}
use Rattle.fleet_place.proofs.order.put_in_order.Goals as goal

-- what the sort goes by: it falls as the demand rises
abbrev late : Vm → ℕ
late vm = 18446744073709551615 - vm.demand

-- of neighbours the first comes no later
no_later : (order : List Vm) → IsNonDecreasingBy late order
    → ((k : ℕ) (d : Vm) → k + 1 < length order → late (get_or order k d) ≡ late (get_or order (k + 1) d)
    → (get_or order k d).number ≤ (get_or order (k + 1) d).number)
    → (k : ℕ) (first second : Vm) → slice_get order k ≡ Some first → slice_get order (k + 1) ≡ Some second
    → IsNoLater first second
no_later order rise ties k first second here after =
    let one : get_or order k first ≡ first = get_or_from_slice_get order k first first here in
    let two : get_or order (k + 1) first ≡ second = get_or_from_slice_get order (k + 1) second first after in
    let low : k + 1 < length order = slice_get_within order (k + 1) second after in
    let step : k ≤ k + 1 = omega arith in
    let rises : 18446744073709551615 - (get_or order k first).demand
    ≤ 18446744073709551615 - (get_or order (k + 1) first).demand = rise k (k + 1) first step low in
    let in_turn : 18446744073709551615 - first.demand ≤ 18446744073709551615 - second.demand =
    subst (λ (v : Vm). 18446744073709551615 - v.demand ≤ 18446744073709551615 - second.demand) one
    (subst (λ (v : Vm). 18446744073709551615 - (get_or order k first).demand ≤ 18446744073709551615 - v.demand) two rises) in
    let small_one = first.small in
    let small_two = second.small in
    record {
      falls = omega (arith, in_turn, small_one, small_two);
      ties = λ same.
          let tied : late (get_or order k first) ≡ late (get_or order (k + 1) first) =
          ap late one ∙ (ap (λ n. 18446744073709551615 - n) same ∙ sym (ap late two)) in
          subst (λ (v : Vm). v.number ≤ second.number) one
          (subst (λ (v : Vm). (get_or order k first).number ≤ v.number) two (ties k first low tied));
    }

pub returns : goal.returns
returns c = record {
  same = IsPermutation-trans _ _ _ c.sort_by_key.ensures.permutation c.sort_by_key-2.ensures.permutation;
  next = no_later _
      (IsNonDecreasingBy-from_sort_by_key (λ (v : Vm). 18446744073709551615 - v.demand) _
      c.in_ok-sort_by_key-2.ensures.sorted (λ a r q k. search rules))
      (ties_still_rise (λ (v : Vm). v.number) (λ (v : Vm). 18446744073709551615 - v.demand) _ _
      (c.in_ok-sort_by_key.ensures.sorted (λ (v : Vm). v.number) (answers_always _ _ _ (λ f a r g h. search rules)))
      (c.sort_by_key-2.ensures.stable (λ (v : Vm). 18446744073709551615 - v.demand)
      (answers_always _ _ _ (λ f a r g h. search rules))));
}

use Rattle.std.proofs.Common.{◌≡◌, ap, arith, rules, sym, ◌∙◌}
use Rattle.std.proofs.lemmas.List.{take_all}
use Rattle.std.proofs.lemmas.List.Sorted.{IsNonDecreasingBy-from_sort_by_key, list_any-IsPermutation}
use Rattle.std.specs.List.{list_any}
use Rattle.view_doc.specs.declared.view.Stretch.{Stretch}
use Rattle.view_table.specs.Waits.{serves}
use Rattle.view_table.proofs.waits.by_begin.Goals as goal

pub returns : goal.returns
returns c =
    let all : c.loop-slot.order.items ≡ c.args.slots.now =
    c.loop-slot.invariant ∙ take_all c.loop-slot.slot-index c.args.slots.now (omega arith) in
    record {
      rise = IsNonDecreasingBy-from_sort_by_key (λ (s : Stretch). s.from) _ c.in_ok-sort_by_key.ensures.sorted
          (λ a r q k. search rules);
      same = λ v place.
          sym (list_any-IsPermutation (serves v place) _ _ c.sort_by_key.ensures.permutation)
          ∙ ap (list_any (serves v place)) all;
    }

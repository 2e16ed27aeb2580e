use Rattle.std.proofs.Common.{◌≡◌, ◌+◌, [], ◌++◌, List, ap, arith, flat_map, get_or, rules, subst, sym, take, ◌∙◌}
use Rattle.std.proofs.lemmas.List.{flat_map_more, take_all, take_more}
use Rattle.std.proofs.lemmas.List.Sorted.{IsNonDecreasingBy-from_sort_by_key}
use Rattle.std.specs.List.Sorted.{IsPermutation}
use Rattle.view_doc.specs.declared.view.Stretch.{Stretch}
use Rattle.run_trace.specs.RunTraces.{turn_place, turns_of}
use Rattle.run_trace.specs.declared.turn.Turn.{Turn}
use Rattle.run_trace.proofs.turns.turns_in.Goals as goal

pub returns : goal.returns
returns c =
    let all : c.loop-stint.turns.items ≡ flat_map turns_of c.args.stints.now =
    c.loop-stint.invariant ∙ ap (flat_map turns_of) (take_all c.loop-stint.stint-index c.args.stints.now (omega arith)) in
    record {
      same = subst (λ (turns : List Turn). IsPermutation turns c.sort_by_key.new.self.items) all
          c.sort_by_key.ensures.permutation;
      rise = IsNonDecreasingBy-from_sort_by_key turn_place _ c.in_ok-sort_by_key.ensures.sorted
          (λ a r q k. search rules);
    }

pub loop-stint-preserved : goal.loop-stint-preserved
loop-stint-preserved c =
    let step : flat_map turns_of (take (c.loop-stint.stint-index + 1) c.args.stints.now)
    ≡ flat_map turns_of (take c.loop-stint.stint-index c.args.stints.now) ++ turns_of c.stint-item.result =
    ap (flat_map turns_of) (take_more c.args.stints.now c.loop-stint.stint-index c.stint-item.result c.loop-stint-test.true)
    ∙ sym (flat_map_more turns_of [] (take c.loop-stint.stint-index c.args.stints.now)
    (get_or c.args.stints.now c.loop-stint.stint-index c.stint-item.result))
    ∙ ap (λ (s : Stretch). flat_map turns_of (take c.loop-stint.stint-index c.args.stints.now) ++ turns_of s)
    (sym c.stint-item.is) in
    c.in_ok-put_turns.ensures
    ∙ ap (λ turns. turns ++ turns_of c.stint-item.result) c.loop-stint.invariant
    ∙ sym step

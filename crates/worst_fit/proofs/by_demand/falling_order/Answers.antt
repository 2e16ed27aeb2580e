use Rattle.std.proofs.Common.{◌++◌, List, sym, ap, ◌∙◌, append-nil, refl, subst}
use Rattle.std.proofs.Math.ListN.{drop_of_length-le}
use Rattle.std.specs.Prelude.{IsPermutation}
use Rattle.worst_fit.specs.declared.by_demand.ByDemand.{ByDemand}
use Rattle.worst_fit.specs.Order.{ranks_from}
use Rattle.worst_fit.proofs.OrderLemmas.{push_some, skip_none, ranks_from-nil}
use Rattle.worst_fit.proofs.by_demand.falling_order.Goals.{in-Some+in_ok-push, in_default}
use Rattle.worst_fit.proofs.by_demand.falling_order.Goals as goal

pub loop-number-preserved : goal.loop-number-preserved
loop-number-preserved c = elim c.match-task.branch [
  | in-Some+in_ok-push w ↦
      push_some c.loop-number.ranks.items c.match-task.ranks.items _ _ _ _ _ _
      c.loop-number-test.true c.index-tasks-number.is w.in-Some.is w.demand_of.ensures.value
      (rw w.ranks-is w.in_ok-push.ensures.items) c.loop-number.invariant
  | in_default w ↦
      skip_none c.loop-number.ranks.items c.match-task.ranks.items _ _ _ _ c.loop-number-test.true
      c.index-tasks-number.is w.in_default.is (rw w.ranks-is refl) c.loop-number.invariant
]

pub returns : goal.returns
returns c =
    let end = ap (ranks_from c.loop-number.number)
    (drop_of_length-le c.args.tasks.now {i = c.loop-number.number} c.loop-number-test.false)
    ∙ ranks_from-nil c.loop-number.number in
    let all = sym (append-nil c.loop-number.ranks.items)
    ∙ ap (λ r. c.loop-number.ranks.items ++ r) (sym end) ∙ c.loop-number.invariant in
    record {
      admitted = subst (λ (r : List ByDemand). IsPermutation r c.sort.new.self.items) all
          c.in_ok-sort.ensures.permutation;
      falls = c.in_ok-sort.ensures.sorted;
    }

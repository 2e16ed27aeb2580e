use Rattle.std.proofs.Common.{◌≡◌, ℕ, ◌∙◌, Bool, List, Option, subst, sym}
use Rattle.tab_core.specs.declared.periodic.Periodic.{Periodic}
use Rattle.table_form.specs.Tables.Rows.{Row}
use Rattle.flow_net.specs.Allotments.{AllotmentView}
use Rattle.flow_net.specs.Allotted.{allotment_view}
use Rattle.wrap_table.specs.Inside.Homing.{AreHomesOf}
use Rattle.wrap_table.specs.Wrapping.{AreWrapped}
use Rattle.wrap_table.proofs.WholeLemmas.{intervals_of}
use Rattle.wrap_table.proofs.WrappedPlan.{IsMade, made_is_wrapped, made_keeps}
use Rattle.wrap_table.proofs.wrapping.wrap.Goals as goal

pub rows_of-requires-clause-intervals : goal.rows_of-requires-clause-intervals
rows_of-requires-clause-intervals c =
    intervals_of c.args.tasks.now c.args.cores (allotment_view c.args.allotment.now) c.requires.allotment
    c.items-tasks.ensures.few

-- what the calls made, by the lists that they were given and gave
made : (tasks items copy of_tasks : List (Option Periodic)) (cores : ℕ) (a : AllotmentView)
    (rows read of_rows : List Row) (homes of_homes : List (Option ℕ)) (capped : List Bool) → items ≡ tasks → copy ≡ items
    → of_tasks ≡ copy
    → AreWrapped a cores rows → read ≡ rows → of_rows ≡ rows → AreHomesOf items read homes → of_homes ≡ homes
    → IsMade tasks cores a (record { tasks = of_tasks; homes = of_homes; rows = of_rows; capped = capped })
made tasks items copy of_tasks cores a rows read of_rows homes of_homes capped same copied of_t wrapped reads of_r
    housed of_h = record {
      tasks_are = of_t ∙ copied ∙ same;
      rows_are = subst (λ (r : List Row). AreWrapped a cores r) (sym of_r) wrapped;
      homes_are = subst (λ (t : List (Option Periodic)). AreHomesOf t of_rows of_homes) same
          (subst (λ (r : List Row). AreHomesOf items r of_homes) (reads ∙ sym of_r)
          (subst (λ (h : List (Option ℕ)). AreHomesOf items read h) (sym of_h) housed));
    }

pub invariant_of-result : goal.invariant_of-result
invariant_of-result c =
    let kept = made_keeps c.args.tasks.now c.args.cores (allotment_view c.args.allotment.now) _
    c.requires.allotment
    (made c.args.tasks.now c.items-tasks.result.now c.in_ok-tasks.tasks.items c.of.result c.args.cores
    (allotment_view c.args.allotment.now) c.in_ok-rows.rows.items c.deref.result.now c.of-3.result
    c.in_ok-homes.homes.items c.of-2.result c.args.capped c.items-tasks.ensures.same c.in_ok-tasks.ensures.items
    c.of.ensures
    c.in_ok-rows.ensures c.deref.ensures.value c.of-3.ensures c.in_ok-homes.ensures c.of-2.ensures) in
    record {
      serves = kept.serves;
      apart = kept.apart;
      housed = kept.housed;
      owned = kept.owned;
      exact = kept.exact;
    }

pub returns-clause-wrapped : goal.returns-clause-wrapped
returns-clause-wrapped c =
    made_is_wrapped c.args.tasks.now c.args.cores (allotment_view c.args.allotment.now) _ c.requires.allotment
    (made c.args.tasks.now c.items-tasks.result.now c.in_ok-tasks.tasks.items c.of.result c.args.cores
    (allotment_view c.args.allotment.now) c.in_ok-rows.rows.items c.deref.result.now c.of-3.result
    c.in_ok-homes.homes.items c.of-2.result c.args.capped c.items-tasks.ensures.same c.in_ok-tasks.ensures.items
    c.of.ensures
    c.in_ok-rows.ensures c.deref.ensures.value c.of-3.ensures c.in_ok-homes.ensures c.of-2.ensures)

use Rattle.std.proofs.Common.{ap, length, subst, sym, ◌∙◌}
use Rattle.std.proofs.lemmas.Result.{err_from_is_err_and}
use Rattle.table_form.specs.Tables.Serves.{has_task}
use Rattle.table_form.specs.Tables.Views.{plan_view}
use Rattle.table_form.proofs.TaskLemmas.{tasks_admit}
use Rattle.period_choice.proofs.TasksLemmas.{tasks_where_reserved}
use Rattle.coalesce.specs.Joining.{AreJoined}
use Rattle.plan_make.proofs.OnePlan.{IsMadeOf, layout_is_planned}
use Rattle.plan_make.proofs.StayingAnswer.{answer_of_fault, answer_of_memory, answer_of_plan}
use Rattle.plan_make.proofs.planner.plan_staying_with.Goals as goal

pub returns-in_err-layout-clause-answer : goal.returns-in_err-layout-clause-answer
returns-in_err-layout-clause-answer c =
    let p = err_from_is_err_and c.from_residual.result c.from_residual.ensures.1 in
    rw (p.1, p.2)
    (answer_of_fault c.args.old_homes.now c.args.host.now c.args.tasks c.in_err-layout.field-0.0 c.requires
    c.in_err-layout.ensures.fault c.in_err-layout.ensures.bound)

pub returns-in_err-draft-clause-answer : goal.returns-in_err-draft-clause-answer
returns-in_err-draft-clause-answer c =
    let p = err_from_is_err_and c.from_residual-in_err-draft.result c.from_residual-in_err-draft.ensures.1 in
    rw (p.1, p.2) (answer_of_memory c.args.old_homes.now c.args.host.now c.args.tasks c.requires)

pub returns-in_err-join_slivers-clause-answer : goal.returns-in_err-join_slivers-clause-answer
returns-in_err-join_slivers-clause-answer c =
    let p = err_from_is_err_and c.from_residual-in_err-join_slivers.result
    c.from_residual-in_err-join_slivers.ensures.1 in
    rw (p.1, p.2) (answer_of_memory c.args.old_homes.now c.args.host.now c.args.tasks c.requires)

-- what the calls made
made : (c : goal.After-drop-draft-5)
    → IsMadeOf c.args.host.now c.args.tasks c.in_ok-layout.layout.cores
    c.in_ok-layout.layout.homes.items c.in_ok-draft.draft.pieces c.in_ok-draft.draft.tables.rows
    (plan_view c.in_ok-join_slivers.field-0)
made c = record {
  pieces_are = c.in_ok-draft.ensures.pieces;
  rows_are = c.in_ok-draft.ensures.rows;
  tasks_are = c.in_ok-join_slivers.ensures.tasks ∙ c.in_ok-draft.ensures.tasks;
  homes_are = c.in_ok-join_slivers.ensures.homes ∙ c.in_ok-draft.ensures.homes;
  capped_are = c.in_ok-join_slivers.ensures.capped ∙ c.in_ok-draft.ensures.capped ∙ c.capped.ensures;
  joined = subst (λ set. AreJoined c.in_ok-draft.draft.pieces set c.args.host.now.sliver
      c.in_ok-draft.draft.tables.rows c.in_ok-join_slivers.field-0.tables.rows)
      (sym c.in_ok-join_slivers.ensures.capped) c.in_ok-join_slivers.ensures.joined;
}

pub returns-clause-answer : goal.returns-clause-answer
returns-clause-answer c =
    let are_made = made c in
    answer_of_plan c.args.old_homes.now c.args.host.now _
    (layout_is_planned c.args.old_homes.now c.args.host.now _ _ _ _ _ _ c.in_ok-layout.ensures.layout
    are_made)
    (record {
      rows = c.in_ok-join_slivers.ensures.joined.size ∙ c.in_ok-draft.ensures.count
          ∙ c.in_ok-layout.ensures.count;
      vcpus = ap length are_made.tasks_are ∙ c.requires.as_many;
      admitted = λ v. ap (λ tasks. has_task tasks v) are_made.tasks_are
          ∙ tasks_admit c.args.host.now.vcpus c.args.tasks c.requires.as_many
          (tasks_where_reserved c.args.host.now c.args.tasks c.requires) v;
    })

use Rattle.std.proofs.Common.{refl, subst, sym, ◌∙◌}
use Rattle.table_form.specs.Planning.DraftViews.{draft_facts}
use Rattle.table_form.specs.Planning.Drafts.{IsDraft, pieces_at}
use Rattle.coalesce.specs.Joining.{may_have_more}
use Rattle.coalesce.proofs.Joined.{joined_as, no_more_segments}
use Rattle.coalesce.proofs.Planned.{grown_rows, jobs_served, joined_is_plan}
use Rattle.coalesce.proofs.Unique.{rows_unique}
use Rattle.coalesce.proofs.joining.join_slivers.Goals as goal

pub invariant_of-result : goal.invariant_of-result
invariant_of-result c =
    let draft = c.args.draft.now in
    let tasks = c.of.ensures ∙ c.in_ok-tasks.ensures.items ∙ c.items-4.ensures.same in
    let homes = c.of-2.ensures ∙ c.in_ok-homes.ensures.items ∙ c.items-3.ensures.same in
    let facts = subst (λ ts. IsDraft ts draft.pieces c.of-2.result draft.tables.rows) (sym tasks)
    (subst (λ hs. IsDraft draft.tasks draft.pieces hs draft.tables.rows) (sym homes) (draft_facts draft)) in
    let are = joined_as draft.pieces c.items-2.result.now c.copy.result draft.capped c.args.sliver
    draft.tables.rows c.items.result.now
    c.of-3.result c.in_ok-joined.joined.items c.items-2.ensures (sym c.copy.ensures) c.items.ensures.same
    c.of-3.ensures c.in_ok-joined.ensures in
    let plan = joined_is_plan c.of.result draft.pieces c.of-2.result c.copy.result c.args.sliver
    draft.tables.rows c.of-3.result facts are in
    record {
      serves = plan.serves;
      apart = plan.apart;
      housed = plan.housed;
      owned = plan.owned;
      exact = plan.exact;
    }

pub returns-clause-only : goal.returns-clause-only
returns-clause-only c rows are =
    let draft = c.args.draft.now in
    rows_unique draft.pieces draft.capped c.args.sliver draft.tables.rows rows c.of-3.result are
    (joined_as draft.pieces c.items-2.result.now draft.capped draft.capped c.args.sliver draft.tables.rows c.items.result.now
    c.of-3.result
    c.in_ok-joined.joined.items c.items-2.ensures refl c.items.ensures.same c.of-3.ensures c.in_ok-joined.ensures)

pub returns-clause-jobs : goal.returns-clause-jobs
returns-clause-jobs c core i k row p at listed lt =
    let draft = c.args.draft.now in
    let are = joined_as draft.pieces c.items-2.result.now draft.capped draft.capped c.args.sliver draft.tables.rows c.items.result.now
    c.of-3.result c.in_ok-joined.joined.items c.items-2.ensures refl c.items.ensures.same c.of-3.ensures
    c.in_ok-joined.ensures in
    let grown = grown_rows draft.tasks draft.pieces draft.tables.homes draft.capped c.args.sliver
    draft.tables.rows c.of-3.result
    (draft_facts draft) are core row at in
    jobs_served draft.pieces draft.capped core row grown i k p listed lt

pub returns-clause-fewer : goal.returns-clause-fewer
returns-clause-fewer c core row new row_at new_at =
    let draft = c.args.draft.now in
    let are = joined_as draft.pieces c.items-2.result.now draft.capped draft.capped c.args.sliver draft.tables.rows c.items.result.now
    c.of-3.result c.in_ok-joined.joined.items c.items-2.ensures refl c.items.ensures.same c.of-3.ensures
    c.in_ok-joined.ensures in
    no_more_segments (pieces_at draft.pieces core) (may_have_more draft.pieces draft.capped) c.args.sliver row new
    (are.each core row new row_at new_at)

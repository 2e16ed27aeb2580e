use Rattle.std.proofs.Common.{◌≤◌, ◌+◌, ◌++◌, ap, length, replicate, ◌∙◌, arith}
use Rattle.tab_core.specs.declared.TheConstants.{ROUND}
use Rattle.table_form.proofs.AppendingLemmas.{cells_appended, maximal_appended}
use Rattle.table_form.proofs.SegmentLemmas.{maximal_length}
use Rattle.table_form.proofs.row_builder.RowBuilder.push_run.Goals as goal

pub overflow_add-end : goal.overflow_add-end
overflow_add-end c =
    let whole = maximal_length c.self.inside.segments.items c.self.inside.end c.self.invariant in
    let same = ap length c.self.view_is in
    let below : c.self.inside.end + c.args.count ≤ ROUND = omega arith in
    omega arith

pub invariant_of-self-2 : goal.invariant_of-self-2
invariant_of-self-2 c =
    maximal_appended c.self.inside.segments.items c.push_segment.new.segments.items c.self.inside.end c.args.count
    c.of.result c.self.invariant c.requires.some c.in_ok-push_segment.ensures.ok

pub returns-clause-ok : goal.returns-clause-ok
returns-clause-ok c =
    cells_appended c.self.inside.segments.items c.push_segment.new.segments.items c.self.inside.end c.args.count
    c.of.result c.self.invariant c.requires.some c.in_ok-push_segment.ensures.ok
    ∙ ap (λ cells. cells ++ replicate c.args.count c.of.result) c.self.view_is
    ∙ ap (λ owner. c.args.self.now ++ replicate c.args.count owner) c.of.ensures

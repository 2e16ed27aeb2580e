use Rattle.std.proofs.Common.{length, ap, ◌∙◌, arith}
use Rattle.run_promises.proofs.OneTableLemmas.{complete_counts}
use Rattle.burst_bound.specs.Reports.{BurstReportView}
use Rattle.burst_bound.proofs.ScriptBurstLemmas.{few_bursts}
use Rattle.burst_bound.proofs.report.BurstReport.fill.Goals as goal

pub fill-requires-2-clause-few : goal.fill-requires-2-clause-few
fill-requires-2-clause-few c =
    let s = c.requires.kept.0 in
    let kept = c.requires.kept.1 in
    let count = ap length (c.used-used.ensures ∙ kept.used 0 c.actor.result.now c.actor.ensures)
    ∙ complete_counts c.args.course.now c.args.rounds s c.count.ensures.kept kept.invariant kept.complete in
    omega (arith, c.requires.few)

pub fill-requires-2-clause-since : goal.fill-requires-2-clause-since
fill-requires-2-clause-since c =
    let s = c.requires.kept.0 in
    let kept = c.requires.kept.1 in
    let count = ap length (c.used-used.ensures ∙ kept.used 0 c.actor.result.now c.actor.ensures)
    ∙ complete_counts c.args.course.now c.args.rounds s c.count.ensures.kept kept.invariant kept.complete in
    let fits = c.requires.kept.2.rounds_fit in
    let room = c.self.invariant.2 in
    let view = ap (λ (r : BurstReportView). r.rounds) c.self.view_is in
    omega arith

pub answer_all-requires-clause-room : goal.answer_all-requires-clause-room
answer_all-requires-clause-room c =
    let few = few_bursts 0 c.args.script.now in
    let fits = c.requires.kept.2.events_fit in
    let room = c.self.invariant.4 in
    let view = ap (λ (r : BurstReportView). r.events) c.self.view_is in
    omega arith

use Rattle.std.proofs.Common.{ℕ, List, Some, length, ap, ◌∙◌, subst, arith}
use Rattle.table_form.specs.Running.Courses.{CourseView}
use Rattle.run_promises.proofs.OneTableLemmas.{complete_counts}
use Rattle.burst_bound.specs.Answers.{IsOneIfAny}
use Rattle.burst_bound.specs.Bursts.{IsBurstBound}
use Rattle.burst_bound.proofs.AnswerLemmas.{in_time}
use Rattle.burst_bound.proofs.burst.bound_of.Goals as goal

pub actor-requires : goal.actor-requires
actor-requires c =
    let kept = c.requires.kept.1 in
    omega (arith, c.count.ensures.kept.form.outline.some_core, ap (λ (k : CourseView). k.cores) kept.course_is)

pub bound_since-requires-clause-each_round : goal.bound_since-requires-clause-each_round
bound_since-requires-clause-each_round c =
    let s = c.requires.kept.0 in
    let kept = c.requires.kept.1 in
    ap length (c.used-used.ensures ∙ kept.used 0 c.actor.result.now c.actor.ensures)
    ∙ complete_counts c.args.course.now c.args.rounds s c.count.ensures.kept kept.invariant kept.complete

pub returns : goal.returns
returns c = λ s kept.
    let used = c.used-used.ensures ∙ kept.used 0 c.actor.result.now c.actor.ensures in
    let seen = c.in-Some.ensures s kept in
    let done = c.done_at.ensures s kept in
    let bound = subst (λ (decided : List ℕ). IsOneIfAny
    (IsBurstBound c.args.course.now c.args.rounds decided c.args.event c.args.vcpu c.args.work c.in-Some.seen)
    c.bound_since.result) used c.bound_since.ensures in
    record {
      seen = seen;
      done = done;
      bound = bound;
      in_time = in_time c.args.course.now c.args.rounds s c.args.event c.args.vcpu c.args.work (Some c.in-Some.seen)
          c.bound_since.result c.done_at.result c.count.ensures.kept kept.invariant kept.complete seen done bound;
    }

use Rattle.std.proofs.Common.{◌<◌, length, take, ◌∙◌, arith}
use Rattle.std.proofs.lemmas.List.{take_more}
use Rattle.table_form.specs.Running.State.{opening}
use Rattle.step_machine.specs.Answers.{Moves}
use Rattle.step_machine.proofs.RunLemmas.{leads_keep, leads_more, opening_kept}
use Rattle.step_machine.proofs.TraceLemmas.{trace_more, trace_of_course}
use Rattle.step_machine.proofs.replaying.replay.Goals as goal

pub loop-place-preserved : goal.loop-place-preserved
loop-place-preserved c =
    let step = c.index-steps-place.result in
    let course = c.args.course.now in
    let inv = c.loop-place.invariant in
    let lt : c.loop-place.place < length c.args.steps.now = omega arith in
    let old = c.loop-place.world.state in
    let new = c.apply-answer.new.self.state in
    let moves : Moves course c.args.rounds old step new =
    rw (← inv.course, ← inv.rounds) c.in-Done.ensures.answer in
    let adds = c.in-Done.ensures.made in
    record {
      leads = rw (take_more c.args.steps.now c.loop-place.place step lt, ← c.index-steps-place.is)
          (leads_more course c.args.rounds (opening course.cores)
          (take c.loop-place.place c.args.steps.now) old step new inv.leads moves);
      trace = rw (take_more c.args.steps.now c.loop-place.place step lt, ← c.index-steps-place.is, adds.2)
          (trace_more course c.args.rounds (opening course.cores)
          (take c.loop-place.place c.args.steps.now) old c.loop-place.world.made step new adds.0 inv.trace
          moves adds.1);
      spare = omega (arith, inv.spare, c.apply-answer.ensures.spare);
      course = c.apply-answer.ensures.same.0 ∙ inv.course;
      rounds = c.apply-answer.ensures.same.1 ∙ inv.rounds;
    }

pub returns-clause-of_course : goal.returns-clause-of_course
returns-clause-of_course c =
    let course = c.args.course.now in
    let inv = c.loop-place.invariant in
    trace_of_course course c.args.rounds (opening course.cores) _ c.loop-place.world.state
    c.loop-place.world.made c.in_ok-world.ensures.course_kept (opening_kept course c.args.rounds) inv.trace

pub returns-clause-kept : goal.returns-clause-kept
returns-clause-kept c =
    let course = c.args.course.now in
    let inv = c.loop-place.invariant in
    leads_keep course c.args.rounds (opening course.cores) _ c.loop-place.world.state
    c.in_ok-world.ensures.course_kept inv.leads (opening_kept course c.args.rounds)

use Rattle.std.proofs.Common.{◌∙◌}
use Rattle.core_workers.proofs.StartLemmas.{fresh_as}
use Rattle.run_course.proofs.RunLemmas.{are_told, keeps_on, run_of}
use Rattle.run_course.proofs.ran.run_course.Goals as goal

pub run_all-seat-requires-clause-agree : goal.run_all-seat-requires-clause-agree
run_all-seat-requires-clause-agree g c κs within =
    c.in-Ok.ensures.ready.0.agrees c.start.new.seat.view (fresh_as c.args.course.now c.start.new.seat.view
    c.lag.result c.cores.result c.count.result c.lag.ensures.lag c.cores.ensures.cores c.count.ensures.count
    c.start.ensures.view)

pub tell-requires-clause-told : goal.tell-requires-clause-told
tell-requires-clause-told g c =
    let ready = c.in-Ok.ensures.ready.0 in
    let all = c.run_all-seat.ensures in
    are_told c.run_all-seat.result.1 c.run_all-seat.result.0.view c.shown-2.ensures.0 c.shown-2.ensures.1
    all.agree all.holds c.shown.ensures all.finished c.args.rounds (all.same.rounds ∙ ready.rounds_are)
    c.requires.fits.few_rounds

pub returns-clause-ran : goal.returns-clause-ran
returns-clause-ran g c =
    let ready = c.in-Ok.ensures.ready.0 in
    let all = c.run_all-seat.ensures in
    run_of c.run_all-seat.result.1 c.run_all-seat.result.0.view c.shown-2.ensures.0 c.shown-2.ensures.1
    all.agree all.holds c.shown.ensures all.finished c.args.course.now c.args.rounds c.args.mode c.tell.new.report
    (all.same.course ∙ ready.course_is) (all.same.rounds ∙ ready.rounds_are)
    (keeps_on c.args.course.now c.args.rounds c.args.mode c.in-Ok.taken.0 c.run_all-seat.result.1 ready all.same)
    c.tell.ensures

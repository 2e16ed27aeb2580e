use Rattle.std.proofs.Common.{◌<◌, length, refl, ap, sym, ◌∙◌, arith}
use Rattle.std.proofs.lemmas.Option.{slice_get_read}
use Rattle.step_machine.proofs.ShownLemmas.{is_see, is_decide, is_run, is_end}
use Rattle.table_form.specs.Tables.Plans.{PlanView}
use Rattle.step_machine.specs.Inside.Logs.{core_of_log}
use Rattle.step_machine.specs.Inside.MachineStates.{state_of_machine}
use Rattle.step_machine.proofs.MachineStateLemmas.{log_kept, least_clock}
use Rattle.step_machine.proofs.NextLemmas.{post_at_end, post_for_see, see_now, decide_now, some_next, run_now, whole_at_end, clock_at_end}
use Rattle.step_machine.proofs.next.next_step.Goals as goal

pub phase_at-requires-clause-numbered : goal.phase_at-requires-clause-numbered
phase_at-requires-clause-numbered c =
    let p = c.args.machine.now in
    let log = c.index-log.result.now in
    let i = c.lowest-c.result in
    let course = c.args.course.now in
    let lt : i < length p.logs.items = rw c.deref.ensures.value at c.lowest-c.ensures.within in
    let at = slice_get_read p.logs.items (length p.logs.items) i log refl lt c.index-log.ensures in
    let low = least_clock p i log at (rw c.deref.ensures.value at c.lowest-c.ensures.least) in
    (log_kept course c.args.rounds p i log c.requires.kept at).timeline.numbered

pub returns-then-machine-count-clause-none : goal.returns-then-machine-count-clause-none
returns-then-machine-count-clause-none c =
    let p = c.args.machine.now in
    let log = c.index-log.result.now in
    let i = c.lowest-c.result in
    let course = c.args.course.now in
    let lt : i < length p.logs.items = rw c.deref.ensures.value at c.lowest-c.ensures.within in
    let at = slice_get_read p.logs.items (length p.logs.items) i log refl lt c.index-log.ensures in
    let low = least_clock p i log at (rw c.deref.ensures.value at c.lowest-c.ensures.least) in
    whole_at_end course c.args.rounds (state_of_machine p) i (core_of_log log) c.requires.kept low
    (clock_at_end c.args.rounds (core_of_log log)
    (is_end _ (sym c.phase_at.ensures ∙ c.in-Finished.is)))
    (c.if-machine-count.true ∙ c.count.ensures.count)

pub returns-else-machine-count-clause-some : goal.returns-else-machine-count-clause-some
returns-else-machine-count-clause-some c =
    let p = c.args.machine.now in
    let log = c.index-log.result.now in
    let i = c.lowest-c.result in
    let course = c.args.course.now in
    let lt : i < length p.logs.items = rw c.deref.ensures.value at c.lowest-c.ensures.within in
    let at = slice_get_read p.logs.items (length p.logs.items) i log refl lt c.index-log.ensures in
    let low = least_clock p i log at (rw c.deref.ensures.value at c.lowest-c.ensures.least) in
    (let phase = is_end _ (sym c.phase_at.ensures ∙ c.in-Finished.is) in post_at_end course
    c.args.rounds (state_of_machine p) i (core_of_log log) c.requires.fits low
    (clock_at_end c.args.rounds (core_of_log log) phase) phase
    (omega (arith, c.count.ensures.count, c.requires.kept.posted_most)))

pub returns-then-has_up_to-clause-some : goal.returns-then-has_up_to-clause-some
returns-then-has_up_to-clause-some c =
    let p = c.args.machine.now in
    let log = c.index-log.result.now in
    let i = c.lowest-c.result in
    let course = c.args.course.now in
    let lt : i < length p.logs.items = rw c.deref.ensures.value at c.lowest-c.ensures.within in
    let at = slice_get_read p.logs.items (length p.logs.items) i log refl lt c.index-log.ensures in
    let low = least_clock p i log at (rw c.deref.ensures.value at c.lowest-c.ensures.least) in
    see_now course c.args.rounds (state_of_machine p) i (core_of_log log) low
    (is_see _ (sym c.phase_at.ensures ∙ c.in-See.is))
    (c.has_up_to.ensures.0 c.if-has_up_to.true)

pub returns-else-has_up_to-clause-some : goal.returns-else-has_up_to-clause-some
returns-else-has_up_to-clause-some c =
    let p = c.args.machine.now in
    let log = c.index-log.result.now in
    let i = c.lowest-c.result in
    let course = c.args.course.now in
    let lt : i < length p.logs.items = rw c.deref.ensures.value at c.lowest-c.ensures.within in
    let at = slice_get_read p.logs.items (length p.logs.items) i log refl lt c.index-log.ensures in
    let low = least_clock p i log at (rw c.deref.ensures.value at c.lowest-c.ensures.least) in
    post_for_see course c.args.rounds (state_of_machine p) i (core_of_log log) c.lag-lag.ensures.kept low
    (is_see _ (sym c.phase_at.ensures ∙ c.in-See.is))
    (λ has. (let is = c.has_up_to.ensures.1 has in let isnt = c.if-has_up_to.false in absurd
    (cc)))

pub returns-in-Decide-clause-some : goal.returns-in-Decide-clause-some
returns-in-Decide-clause-some c =
    let p = c.args.machine.now in
    let log = c.index-log.result.now in
    let i = c.lowest-c.result in
    let course = c.args.course.now in
    let lt : i < length p.logs.items = rw c.deref.ensures.value at c.lowest-c.ensures.within in
    let at = slice_get_read p.logs.items (length p.logs.items) i log refl lt c.index-log.ensures in
    let low = least_clock p i log at (rw c.deref.ensures.value at c.lowest-c.ensures.least) in
    decide_now course c.args.rounds (state_of_machine p) i (core_of_log log) c.requires.kept low
    (is_decide _ (sym c.phase_at.ensures ∙ c.in-Decide.is))

pub returns-in-Run-clause-some : goal.returns-in-Run-clause-some
returns-in-Run-clause-some c =
    let p = c.args.machine.now in
    let log = c.index-log.result.now in
    let i = c.lowest-c.result in
    let course = c.args.course.now in
    let lt : i < length p.logs.items = rw c.deref.ensures.value at c.lowest-c.ensures.within in
    let at = slice_get_read p.logs.items (length p.logs.items) i log refl lt c.index-log.ensures in
    let low = least_clock p i log at (rw c.deref.ensures.value at c.lowest-c.ensures.least) in
    let few = ap (λ (plan : PlanView). length plan.tasks) c.plan_after.ensures.plan in
    let next = some_next course c.args.rounds (state_of_machine p) i (core_of_log log) c.lag-lag.ensures.kept
    (omega (arith, c.items-tasks.ensures.few)) c.requires.kept low.at
    (is_run _ (sym c.phase_at.ensures ∙ c.in-Run.is)) in
    run_now course c.args.rounds (state_of_machine p) i (core_of_log log) next.0 c.lag-lag.ensures.kept low next.1

use Rattle.std.proofs.Common.{◌≡◌, ◌/◌, inr, length, Some, refl, ap, sym, ◌∙◌, arith}
use Rattle.std.specs.Prelude.{◌<◌, slice_get}
use Rattle.std.proofs.lemmas.Option.{slice_get-get_or}
use Rattle.tab_core.specs.declared.TheConstants.{ROUND}
use Rattle.tab_core.proofs.Lists.{element_at, same}
use Rattle.table_form.specs.Tables.Plans.{PlanView}
use Rattle.slice_table.specs.Slices.{IsTableOf}
use Rattle.table_form.specs.Running.Choice.{IsDispatch, last_after, last_shared}
use Rattle.table_form.specs.Running.Courses.{CourseView, plan_after, plan_number_after}
use Rattle.table_form.specs.Running.Outlines.{OutlineView}
use Rattle.table_form.proofs.CourseLemmas.{in_course}
use Rattle.step_machine.specs.Inside.Logs.{core_of_log, cores_of_logs}
use Rattle.step_machine.proofs.LogLemmas.{core_at}
use Rattle.step_machine.proofs.PhaseLemmas.{entered_to_run}
use Rattle.step_machine.proofs.MachineStateLemmas.{log_found, log_kept}
use Rattle.step_machine.proofs.stints.stint_now.Goals as goal

pub seen_by-seen-requires : goal.seen_by-seen-requires
seen_by-seen-requires c =
    let p = c.args.machine.now in
    let log = c.index-log.result.now in
    let at = log_found c.args.course.now c.args.rounds p c.args.c log c.requires.kept
    c.requires.core c.index-log.ensures in
    inr (c.requires.due (core_of_log log) (core_at p.logs.items c.args.c log at))

pub used_in-used-requires : goal.used_in-used-requires
used_in-used-requires c =
    let p = c.args.machine.now in
    let log = c.index-log.result.now in
    let at = log_found c.args.course.now c.args.rounds p c.args.c log c.requires.kept
    c.requires.core c.index-log.ensures in
    let k = log_kept c.args.course.now c.args.rounds p c.args.c log c.requires.kept at in
    entered_to_run c.args.rounds (core_of_log log) k.timeline.numbered
    (c.requires.due (core_of_log log) (core_at p.logs.items c.args.c log at))

pub table_after-table-requires-clause-used : goal.table_after-table-requires-clause-used
table_after-table-requires-clause-used c =
    let p = c.args.machine.now in
    let log = c.index-log.result.now in
    let at = log_found c.args.course.now c.args.rounds p c.args.c log c.requires.kept
    c.requires.core c.index-log.ensures in
    let k = log_kept c.args.course.now c.args.rounds p c.args.c log c.requires.kept at in
    let lt = entered_to_run c.args.rounds (core_of_log log) k.timeline.numbered
    (c.requires.due (core_of_log log) (core_at p.logs.items c.args.c log at)) in
    let found = element_at log.entries.items (log.clock / ROUND) lt in
    let used = c.used_in-used.ensures found.0 found.1 in
    let most = c.requires.kept.decided_posted (log.clock / ROUND) found.0.used
    ((c.requires.kept.table.cores c.args.c (core_of_log log) (core_at p.logs.items c.args.c log at)).entries
    (log.clock / ROUND) found.0 found.1) in
    omega (arith, c.requires.kept.posted_most)

pub next_stint-requires : goal.next_stint-requires
next_stint-requires c =
    let p = c.args.machine.now in
    let log = c.index-log.result.now in
    let at = log_found c.args.course.now c.args.rounds p c.args.c log c.requires.kept
    c.requires.core c.index-log.ensures in
    let k = log_kept c.args.course.now c.args.rounds p c.args.c log c.requires.kept at in
    let most = (k.sight c.seen_by-seen.result c.seen_by-seen.ensures).seen_posted in
    let ticks = ap (λ (o : OutlineView). length o.ticks) c.outline-outline.ensures.outline in
    record {
      from = omega (arith, k.clock.in_run);
      seen = omega (arith, c.requires.kept.posted_most);
      after = c.span-span.ensures.after;
      within = c.span-span.ensures.within;
    }

-- the table is the core's of the plan that its round uses
table_of : (c : goal.After-next_stint) → IsTableOf (plan_after c.args.course.now c.used_in-used.result) c.args.c
    c.table_after-table.result.now
table_of c =
    let tables = c.index-slices-c.result in
    let small : c.args.c < length c.args.slices.now = omega (arith, c.requires.sliced.count, c.requires.core) in
    let at : slice_get c.args.slices.now c.args.c ≡ Some tables =
    slice_get-get_or c.args.slices.now c.args.c tables small ∙ ap Some (sym c.index-slices-c.is) in
    (c.requires.sliced.each c.args.c tables at).each
    (plan_number_after c.args.course.now c.used_in-used.result) c.table_after-table.result.now
    c.table_after-table.ensures

pub returns-clause-next : goal.returns-clause-next
returns-clause-next c = λ core h.
    let p = c.args.machine.now in
    let log = c.index-log.result.now in
    let course = c.args.course.now in
    let at = log_found course c.args.rounds p c.args.c log c.requires.kept c.requires.core
    c.index-log.ensures in
    let k = log_kept course c.args.rounds p c.args.c log c.requires.kept at in
    let due = c.requires.due (core_of_log log) (core_at p.logs.items c.args.c log at) in
    let found = element_at log.entries.items (log.clock / ROUND)
    (entered_to_run c.args.rounds (core_of_log log) k.timeline.numbered due) in
    let is = same (slice_get (cores_of_logs p.logs.items) c.args.c) (core_of_log log) core
    (core_at p.logs.items c.args.c log at) h in
    let stint = c.next_stint.result.stint in
    let plan : PlanView = plan_after course c.used_in-used.result in
    let follows : IsDispatch course c.args.c log.stints.items stint =
    in_course course c.outline-outline.result.now c.used_in-used.result plan
    (λ (of : CourseView). log.last ≡ last_shared of c.args.c log.stints.items
    → IsDispatch of c.args.c log.stints.items stint)
    c.outline-outline.ensures.outline refl
    (λ plans numbers is. c.next_stint.ensures.follows plan
    (c.span-span.ensures.span plan c.args.c (table_of c)) plans numbers is log.stints.items)
    (c.requires.known c.args.c log at) in
    rw (← is) (record {
      due = due;
      has_seen = c.seen_by-seen.ensures ∙ ap Some (sym c.next_stint.ensures.seen);
      entry = found.0;
      entered = found.1;
      uses = c.next_stint.ensures.used ∙ sym (c.used_in-used.ensures found.0 found.1);
      from = c.next_stint.ensures.from;
      follows = follows;
    })

pub returns-clause-last : goal.returns-clause-last
returns-clause-last c = λ log' h.
    let p = c.args.machine.now in
    let log = c.index-log.result.now in
    let course = c.args.course.now in
    let at = log_found course c.args.rounds p c.args.c log c.requires.kept c.requires.core
    c.index-log.ensures in
    let is = same (slice_get p.logs.items c.args.c) log log' at h in
    let plan : PlanView = plan_after course c.used_in-used.result in
    rw (← is) (in_course course c.outline-outline.result.now c.used_in-used.result plan
    (λ (of : CourseView). c.next_stint.result.last ≡ last_after of c.args.c log.last c.next_stint.result.stint)
    c.outline-outline.ensures.outline refl
    (c.next_stint.ensures.last plan (c.span-span.ensures.span plan c.args.c (table_of c))))

use Rattle.std.proofs.Common.{refl, ap, sym, ◌∙◌, arith}
use Rattle.std.specs.Prelude.{slice_get}
use Rattle.tab_core.proofs.Lists.{same}
use Rattle.run_promises.proofs.ChoiceLemmas.{last_more}
use Rattle.step_machine.specs.Answers.{shown}
use Rattle.step_machine.proofs.ShownLemmas.{is_run}
use Rattle.step_machine.specs.Inside.Logs.{core_of_log, cores_of_logs}
use Rattle.step_machine.proofs.LogLemmas.{core_at, cores_edited, rooms_edited}
use Rattle.step_machine.proofs.MachineStateLemmas.{log_found, log_kept, spare_less, clock_small, last_edited}
use Rattle.step_machine.proofs.steps.run.Goals as goal

pub phase_at-phase-requires-clause-numbered : goal.phase_at-phase-requires-clause-numbered
phase_at-phase-requires-clause-numbered c =
    let at = log_found c.args.course.now c.args.rounds c.args.machine.now c.args.c
    c.index-log.result.now c.requires.kept c.requires.core c.index-log.ensures in
    (log_kept c.args.course.now c.args.rounds c.args.machine.now c.args.c c.index-log.result.now
    c.requires.kept at).timeline.numbered

pub returns-in_default : goal.returns-in_default
returns-in_default c =
    let at = log_found c.args.course.now c.args.rounds c.args.machine.now c.args.c
    c.index-log.result.now c.requires.kept c.requires.core c.index-log.ensures in
    record {
      answer = (
        record {
          core = core_of_log c.index-log.result.now;
          at = core_at c.args.machine.now.logs.items c.args.c c.index-log.result.now at;
          found_is = c.phase_at-phase.ensures;
          differs = λ e. c.in_default.not-Run (c.phase_at-phase.ensures ∙ ap shown e);
        },
        refl,
      );
      spare = λ n spare. spare_less c.args.rounds n c.args.machine.now spare;
      last = λ know. know;
    }

pub stint_now-next-requires-clause-due : goal.stint_now-next-requires-clause-due
stint_now-next-requires-clause-due c = λ core h.
    let log = c.index-log.result.now in
    let p = c.args.machine.now in
    let at = log_found c.args.course.now c.args.rounds p c.args.c log c.requires.kept
    c.requires.core c.index-log.ensures in
    let is = same (slice_get (cores_of_logs p.logs.items) c.args.c) (core_of_log log) core
    (core_at p.logs.items c.args.c log at) h in
    rw (← is) (is_run _ (sym c.phase_at-phase.ensures ∙ c.in-Run.is))

pub lowest_behind-requires-clause-small : goal.lowest_behind-requires-clause-small
lowest_behind-requires-clause-small c = λ k log at.
    let small = clock_small c.args.course.now c.args.rounds c.args.machine.now k log
    c.requires.kept c.lag.ensures.kept c.requires.few (rw c.deref.ensures.value at at) in
    omega (arith, c.lag.ensures.lag)

pub returns-in-Some-clause-answer : goal.returns-in-Some-clause-answer
returns-in-Some-clause-answer c =
    let log = c.index-log.result.now in
    let p = c.args.machine.now in
    let at = log_found c.args.course.now c.args.rounds p c.args.c log c.requires.kept
    c.requires.core c.index-log.ensures in (
      record {
        core = core_of_log log;
        at = core_at p.logs.items c.args.c log at;
        stint = c.stint_now-next.result.stint;
        next = c.stint_now-next.ensures.next (core_of_log log) (core_at p.logs.items c.args.c log at);
        low = rw (c.deref.ensures.value, c.lag.ensures.lag) at c.in-Some.ensures.some;
      },
      refl,
    )

pub returns-in-None-clause-answer : goal.returns-in-None-clause-answer
returns-in-None-clause-answer c =
    let log = c.index-log.result.now in
    let p = c.args.machine.now in
    let at = log_found c.args.course.now c.args.rounds p c.args.c log c.requires.kept
    c.requires.core c.index-log.ensures in
    record {
      core = core_of_log log;
      at = core_at p.logs.items c.args.c log at;
      stint = c.stint_now-next.result.stint;
      next = c.stint_now-next.ensures.next (core_of_log log) (core_at p.logs.items c.args.c log at);
      near = rw (c.deref.ensures.value, c.lag.ensures.lag) at c.in-None.ensures.none;
      becomes =
          rw (cores_edited p.logs.items c.push_stint.new.logs.items c.args.c log _
          c.stint_now-next.result.last (c.push_stint.ensures log at)) refl;
    }

pub returns-in-None-clause-spare : goal.returns-in-None-clause-spare
returns-in-None-clause-spare c = λ n spare.
    let log = c.index-log.result.now in
    let p = c.args.machine.now in
    let at = log_found c.args.course.now c.args.rounds p c.args.c log c.requires.kept
    c.requires.core c.index-log.ensures in
    record {
      decided = omega (arith, spare.decided);
      logs = rooms_edited c.args.rounds n p.logs.items c.push_stint.new.logs.items c.args.c log _
          c.stint_now-next.result.last at (c.push_stint.ensures log at) spare.logs;
    }

pub returns-in-None-clause-last : goal.returns-in-None-clause-last
returns-in-None-clause-last c = λ know.
    let log = c.index-log.result.now in
    let p = c.args.machine.now in
    let course = c.args.course.now in
    let s = c.stint_now-next.result.stint in
    let at = log_found course c.args.rounds p c.args.c log c.requires.kept c.requires.core
    c.index-log.ensures in
    last_edited course p.logs.items c.push_stint.new.logs.items c.args.c log _
    c.stint_now-next.result.last (c.push_stint.ensures log at)
    (c.stint_now-next.ensures.last log at
    ∙ rw (know c.args.c log at) (sym (last_more course c.args.c log.stints.items s))) know

pub returns-in-Some-clause-spare : goal.returns-in-Some-clause-spare
returns-in-Some-clause-spare c = λ n spare. spare_less c.args.rounds n c.args.machine.now spare

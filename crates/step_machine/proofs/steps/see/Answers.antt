use Rattle.std.proofs.Common.{refl, ap, sym, ◌∙◌, arith}
use Rattle.step_machine.specs.Answers.{shown}
use Rattle.step_machine.proofs.ShownLemmas.{is_end}
use Rattle.step_machine.specs.Inside.Logs.{core_of_log}
use Rattle.step_machine.proofs.LogLemmas.{core_at, cores_edited, rooms_edited}
use Rattle.step_machine.proofs.MachineStateLemmas.{log_found, log_kept, last_edited, spare_less}
use Rattle.step_machine.proofs.steps.see.Goals as goal

pub phase_at-requires-clause-numbered : goal.phase_at-requires-clause-numbered
phase_at-requires-clause-numbered c =
    let at = log_found c.args.course.now c.args.rounds c.args.machine.now c.args.c
    c.index-log.result.now c.requires.kept c.requires.core c.index-log.ensures in
    (log_kept c.args.course.now c.args.rounds c.args.machine.now c.args.c c.index-log.result.now
    c.requires.kept at).timeline.numbered

pub returns-in-Finished-clause-answer : goal.returns-in-Finished-clause-answer
returns-in-Finished-clause-answer c =
    let at = log_found c.args.course.now c.args.rounds c.args.machine.now c.args.c
    c.index-log.result.now c.requires.kept c.requires.core c.index-log.ensures in (
      record {
        core = core_of_log c.index-log.result.now;
        at = core_at c.args.machine.now.logs.items c.args.c c.index-log.result.now at;
        finished = is_end _ (sym c.phase_at.ensures ∙ c.in-Finished.is);
        found_is = refl;
      },
      refl,
    )

pub returns-then-not-has_up_to-clause-answer : goal.returns-then-not-has_up_to-clause-answer
returns-then-not-has_up_to-clause-answer c =
    let at = log_found c.args.course.now c.args.rounds c.args.machine.now c.args.c
    c.index-log.result.now c.requires.kept c.requires.core c.index-log.ensures in (
      record {
        core = core_of_log c.index-log.result.now;
        at = core_at c.args.machine.now.logs.items c.args.c c.index-log.result.now at;
        due = λ e. c.in_default.not-Finished (c.phase_at.ensures ∙ ap shown e);
        lacks = λ has.
            (let is = c.has_up_to.ensures.1 has in let isnt = c.if-not-has_up_to.true in absurd
            (cc));
        tick_is = c.tick_of.ensures;
      },
      refl,
    )

pub returns-clause-answer : goal.returns-clause-answer
returns-clause-answer c =
    let log = c.index-log.result.now in
    let at = log_found c.args.course.now c.args.rounds c.args.machine.now c.args.c log
    c.requires.kept c.requires.core c.index-log.ensures in
    let edits = c.take_count.ensures log at in
    record {
      core = core_of_log log;
      at = core_at c.args.machine.now.logs.items c.args.c log at;
      due = λ e. c.in_default.not-Finished (c.phase_at.ensures ∙ ap shown e);
      has = c.has_up_to.ensures.0 c.if-not-has_up_to.false;
      becomes =
          rw (cores_edited c.args.machine.now.logs.items c.take_count.new.logs.items c.args.c log _
          log.last edits) refl;
    }

pub returns-clause-spare : goal.returns-clause-spare
returns-clause-spare c = λ n spare.
    let log = c.index-log.result.now in
    let at = log_found c.args.course.now c.args.rounds c.args.machine.now c.args.c log
    c.requires.kept c.requires.core c.index-log.ensures in
    record {
      decided = omega (arith, spare.decided);
      logs = rooms_edited c.args.rounds n c.args.machine.now.logs.items c.take_count.new.logs.items
          c.args.c log _ log.last at (c.take_count.ensures log at) spare.logs;
    }

pub returns-clause-last : goal.returns-clause-last
returns-clause-last c = λ know.
    let log = c.index-log.result.now in
    let at = log_found c.args.course.now c.args.rounds c.args.machine.now c.args.c log
    c.requires.kept c.requires.core c.index-log.ensures in
    last_edited c.args.course.now c.args.machine.now.logs.items c.take_count.new.logs.items
    c.args.c log _ log.last (c.take_count.ensures log at) (know c.args.c log at) know

pub returns-in-Finished-clause-spare : goal.returns-in-Finished-clause-spare
returns-in-Finished-clause-spare c = λ n spare. spare_less c.args.rounds n c.args.machine.now spare

pub returns-then-not-has_up_to-clause-spare : goal.returns-then-not-has_up_to-clause-spare
returns-then-not-has_up_to-clause-spare c = λ n spare. spare_less c.args.rounds n c.args.machine.now spare

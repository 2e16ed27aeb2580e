use Rattle.std.proofs.Common.{refl, ap, sym, ◌∙◌}
use Rattle.std.specs.Prelude.{slice_get}
use Rattle.tab_core.proofs.Lists.{same}
use Rattle.step_machine.specs.Answers.{shown}
use Rattle.step_machine.proofs.ShownLemmas.{is_decide}
use Rattle.step_machine.specs.Inside.Logs.{core_of_log, cores_of_logs}
use Rattle.step_machine.proofs.LogLemmas.{core_at}
use Rattle.step_machine.proofs.MachineStateLemmas.{log_found, log_kept, spare_less}
use Rattle.step_machine.proofs.steps.decide.Goals as goal

pub phase_at-phase-requires-clause-numbered : goal.phase_at-phase-requires-clause-numbered
phase_at-phase-requires-clause-numbered c =
    let at = log_found c.args.course.now c.args.rounds c.args.machine.now c.args.c
    c.index-log.result.now c.requires.kept c.requires.core c.index-log.ensures in
    (log_kept c.args.course.now c.args.rounds c.args.machine.now c.args.c c.index-log.result.now
    c.requires.kept at).timeline.numbered

pub returns-in_default : goal.returns-in_default
returns-in_default c =
    let at = log_found c.args.course.now c.args.rounds c.args.machine.now c.args.c
    c.index-log.result.now c.requires.kept c.requires.core c.index-log.ensures in
    record {
      answer = (
        record {
          core = core_of_log c.index-log.result.now;
          at = core_at c.args.machine.now.logs.items c.args.c c.index-log.result.now at;
          found_is = c.phase_at-phase.ensures;
          differs = λ e. c.in_default.not-Decide (c.phase_at-phase.ensures ∙ ap shown e);
        },
        refl,
      );
      spare = λ n spare. spare_less c.args.rounds n c.args.machine.now spare;
      last = λ know. know;
    }

pub enter-requires-clause-due : goal.enter-requires-clause-due
enter-requires-clause-due c = λ core h.
    let log = c.index-log.result.now in
    let p = c.args.machine.now in
    let at = log_found c.args.course.now c.args.rounds p c.args.c log c.requires.kept
    c.requires.core c.index-log.ensures in
    let is = same (slice_get (cores_of_logs p.logs.items) c.args.c) (core_of_log log) core
    (core_at p.logs.items c.args.c log at) h in
    rw (← is) (is_decide _ (sym c.phase_at-phase.ensures ∙ c.in-Decide.is), c.seen_by-seen.ensures, refl)

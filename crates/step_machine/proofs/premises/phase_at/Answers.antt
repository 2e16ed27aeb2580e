use Rattle.std.proofs.Common.{true, false, sym, ap, arith, rules}
use Rattle.step_machine.specs.Answers.{shown}
use Rattle.step_machine.specs.Inside.Logs.{core_of_log}
use Rattle.step_machine.proofs.PhaseLemmas.{phase_seen, entered_below, not_entered_above}
use Rattle.step_machine.proofs.premises.phase_at.Goals as goal

pub returns-then-log-len : goal.returns-then-log-len
returns-then-log-len c =
    sym (ap shown (phase_seen c.args.rounds (core_of_log c.args.log.now) true
    (λ e. absurd (omega arith)) (search rules)
    (entered_below c.args.log.now.entries.items _ c.requires.numbered (omega arith))))

pub returns-else-log-len : goal.returns-else-log-len
returns-else-log-len c =
    sym (ap shown (phase_seen c.args.rounds (core_of_log c.args.log.now) false
    (λ e. absurd (omega arith)) (search rules)
    (not_entered_above c.args.log.now.entries.items _ c.requires.numbered (omega arith))))

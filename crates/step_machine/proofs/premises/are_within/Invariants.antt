use Rattle.std.proofs.Common.{◌≡◌, ℕ, ◌+◌, ◌<◌, ◌≤◌, Some}
use Rattle.std.specs.Prelude.{slice_get}
use Rattle.table_form.specs.Running.State.{CoreState}
use Rattle.step_machine.specs.Inside.Logs.{cores_of_logs}
use Rattle.step_machine.proofs.premises.are_within.Given as goal

-- the clocks so far aren't below it
abbrev pub invariant-loop-log : goal.invariant-loop-log
invariant-loop-log l = (k : ℕ) (core : CoreState) → k < l.log-index
    → slice_get (cores_of_logs l.logs) k ≡ Some core → l.tick ≤ core.clock + l.lag

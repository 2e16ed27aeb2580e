use Rattle.std.proofs.Common.{◌≡◌, ◌≢◌, ℕ, ◌+◌, ◌<◌, ◌≤◌, Some}
use Rattle.std.specs.Prelude.{slice_get}
use Rattle.table_form.specs.Running.State.{CoreState}
use Rattle.step_machine.specs.Inside.Logs.{cores_of_logs}
use Rattle.step_machine.proofs.premises.first_behind.Given as goal

abbrev pub invariant-loop-d : goal.invariant-loop-d
invariant-loop-d l = (k : ℕ) (core : CoreState) → k < l.d
    → slice_get (cores_of_logs l.logs) k ≡ Some core → l.skip ≢ Some k → l.tick ≤ core.clock + l.lag

use Rattle.std.proofs.Common.{◌≡◌, ℕ, ◌≤◌, length}
use Rattle.std.specs.Prelude.{vec_capacity}
use Rattle.tab_core.specs.declared.TheConstants.{MAX_ROUNDS}
use Rattle.table_form.specs.Running.State.{State}
use Rattle.burst_bound.specs.Inside.Runs.{AreRanBefore, TellRuns}
use Rattle.burst_bound.proofs.runs.add_up.Given as goal

-- the numbers of the pieces so far are there
abbrev pub invariant-loop-k : goal.invariant-loop-k
invariant-loop-k l = record {
  size : length l.before.items ≡ l.k;
  ran : (rounds : ℕ) (s : State) → rounds ≤ MAX_ROUNDS → TellRuns rounds s l.pieces → AreRanBefore s l.pieces l.before.items;
  capacity : vec_capacity l.before ≡ vec_capacity l.fn.before;
}

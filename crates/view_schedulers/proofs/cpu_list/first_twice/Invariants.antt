use Rattle.std.proofs.Common.{◌≡◌, ℕ, ◌<◌, Some}
use Rattle.std.specs.Prelude.{slice_get}
use Rattle.view_schedulers.proofs.cpu_list.first_twice.Given as goal

-- the CPUs so far are different ones
abbrev pub invariant-loop-at : goal.invariant-loop-at
invariant-loop-at l = (j k cpu : ℕ) → j < l.at → k < l.at → slice_get l.cpus j ≡ Some cpu → slice_get l.cpus k ≡ Some cpu
    → j ≡ k

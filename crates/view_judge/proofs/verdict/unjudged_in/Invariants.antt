use Rattle.std.proofs.Common.{◌≡◌, ◌≤◌}
use Rattle.view_judge.specs.Verdicts.{unjudged_below}
use Rattle.view_judge.proofs.verdict.unjudged_in.Given as goal

abbrev pub invariant-loop-vcpu : goal.invariant-loop-vcpu
invariant-loop-vcpu l = record { value : l.count ≡ unjudged_below l.vcpus l.vcpu; small : l.count ≤ l.vcpu }

use Rattle.std.proofs.Common.{◌≡◌, length}
use Rattle.tool_hosts.proofs.promises.planned_for.Given as goal

abbrev pub invariant-loop-number : goal.invariant-loop-number
invariant-loop-number l = record { many : length l.owed.items ≡ l.number }

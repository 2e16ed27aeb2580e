use Rattle.std.proofs.Common.{◌≡◌, ◌≤◌, length}
use Rattle.view_schedulers.specs.Guests.{dot_below}
use Rattle.view_schedulers.proofs.guest.dot_of.Given as goal

abbrev pub invariant-loop-k : goal.invariant-loop-k
invariant-loop-k l = record { dot : l.dot ≡ dot_below l.name l.k; within : l.dot ≤ length l.name }

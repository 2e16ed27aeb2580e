use Rattle.std.proofs.Common.{ℕ, ◌<◌, Contains, get_or}
use Rattle.flow_net.specs.Inside.Marking.{AreAmong}
use Rattle.flow_net.proofs.marks.each_once.Given as goal

abbrev pub invariant-loop-v : goal.invariant-loop-v
invariant-loop-v l = record {
  all : (w : ℕ) → w < l.v → Contains l.few.items (get_or l.periods w 0);
  no_more : AreAmong l.few.items l.periods;
}

use Rattle.std.proofs.Common.{ℕ, ◌++◌, List, length}
use Rattle.plan_text.specs.FirstBad.{IsFirstBadFor}
use Rattle.plan_text.specs.Inside.OldReading.{AreSomeOldVcpus}
use Rattle.plan_text.specs.OldText.{AreOldVcpus, NamedHome}
use Rattle.plan_text.proofs.read_old.take_vcpus.Given as goal

abbrev pub invariant-loop-vcpu : goal.invariant-loop-vcpu
invariant-loop-vcpu l = record {
  text : (more : List NamedHome) → AreOldVcpus more l.left.lines
      → AreOldVcpus (l.vcpus.items ++ more) l.fn.left.lines;
  behind : (bad : ℕ) → IsFirstBadFor AreSomeOldVcpus l.left.number l.left.lines bad
      → IsFirstBadFor AreSomeOldVcpus l.fn.left.number l.fn.left.lines bad;
}

abbrev pub decreases-loop-vcpu : goal.decreases-loop-vcpu
decreases-loop-vcpu l = length l.left.lines

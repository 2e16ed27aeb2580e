use Rattle.std.proofs.Common.{ℕ, ◌-◌, ◌<◌, ◌≤◌}
use Rattle.tab_core.specs.VcpuSets.{IsInBoth, members_of}
use Rattle.tab_core.proofs.vcpu_set.first_common_bit.Given as goal

abbrev pub invariant-words : goal.invariant-words
invariant-words l = record {
  high : l.from ≤ l.at;
  within : l.at ≤ 256;
  none : (v : ℕ) → IsInBoth (members_of l.a) (members_of l.b) v → l.from ≤ v → v < l.at → ⊥;
}

abbrev pub decreases-words : goal.decreases-words
decreases-words l = 256 - l.at

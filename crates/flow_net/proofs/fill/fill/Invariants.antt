-- the first intervals were gone through
use Rattle.std.proofs.Common.{◌≡◌, ◌+◌, ◌*◌, ◌≤◌, length}
use Rattle.flow_net.specs.Flows.{all_lacks}
use Rattle.flow_net.specs.Inside.Demanded.{IsFlowOf, load}
use Rattle.flow_net.specs.Counts.{admitted}
use Rattle.flow_net.proofs.fill.fill.Given as goal

abbrev pub invariant-loop-i : goal.invariant-loop-i
invariant-loop-i g l = record {
  net : IsFlowOf l.demands l.flow (load l.demands).count;
  lacks : all_lacks (load l.demands) l.flow.lacks.items
      ≤ all_lacks (load l.demands) l.initial.flow.lacks.items;
  watches : length l.watches.items ≡ (load l.demands).width;
  wanting : length l.wanting.items ≡ (load l.demands).width;
  cost : l.steps ≤ l.initial.steps + l.i * (2 * admitted (load l.demands) + 1);
}

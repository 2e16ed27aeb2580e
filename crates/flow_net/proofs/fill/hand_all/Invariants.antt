-- the flow is still one, and needs no more
use Rattle.std.proofs.Common.{◌≡◌, ◌≤◌, length}
use Rattle.flow_net.specs.Flows.{all_lacks}
use Rattle.flow_net.specs.Inside.Demanded.{IsFlowOf, load}
use Rattle.flow_net.proofs.fill.hand_all.Given as goal

abbrev pub invariant-loop-n : goal.invariant-loop-n
invariant-loop-n l = record {
  net : IsFlowOf l.demands l.flow (load l.demands).count;
  lacks : all_lacks (load l.demands) l.flow.lacks.items
      ≤ all_lacks (load l.demands) l.initial.flow.lacks.items;
  watches : length l.watches.items ≡ (load l.demands).width;
}

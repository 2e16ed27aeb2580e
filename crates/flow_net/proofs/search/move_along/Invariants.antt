use Rattle.std.proofs.Common.{◌≡◌, ◌<◌}
use Rattle.flow_net.specs.Inside.Demanded.{IsFlowOf}
use Rattle.flow_net.specs.Flows.{flow_of}
use Rattle.flow_net.specs.Inside.Reach.{IsKeptTo}
use Rattle.flow_net.specs.Inside.Reaching.{reached_of, link_at}
use Rattle.flow_net.proofs.search.move_along.Given as goal

abbrev pub invariant-loop-link : goal.invariant-loop-link
invariant-loop-link l = record {
  within : l.x < l.reach.tail;
  is : l.link ≡ link_at l.reach.queue.items l.x;
  net : IsFlowOf l.demands l.flow (link_at l.reach.queue.items l.x).interval;
  lacks : l.flow.lacks.items ≡ l.initial.flow.lacks.items;
  kept : IsKeptTo (flow_of l.initial.flow.rows.items) (flow_of l.flow.rows.items) (reached_of l.reach) l.x;
}

abbrev pub decreases-loop-link : goal.decreases-loop-link
decreases-loop-link l = l.x

-- each search has lowered what all jobs still need by one, or found that there is nothing left
use Rattle.std.proofs.Common.{◌≡◌, ◌+◌, ◌*◌, ◌≤◌, cond, false}
use Rattle.flow_net.specs.Networks.{IsNetwork, lacks_of, load_of_view}
use Rattle.flow_net.specs.Counts.{edges, job_count}
use Rattle.flow_net.proofs.allotting.search_all.Given as goal

abbrev pub invariant-loop-raised : goal.invariant-loop-raised
invariant-loop-raised g l = record {
  network : l.raised ≡ false → IsNetwork l.net;
  demands : l.net.demands ≡ l.initial.net.demands;
  done : l.raised ≡ false → lacks_of l.net ≡ 0;
  cost : l.steps + 2 * edges (load_of_view l.initial.net.demands) * lacks_of l.net
      ≤ l.initial.steps + 2 * edges (load_of_view l.initial.net.demands) * lacks_of l.initial.net
      + cond l.raised 0 (job_count (load_of_view l.initial.net.demands));
}

abbrev pub decreases-loop-raised : goal.decreases-loop-raised
decreases-loop-raised g l = lacks_of l.net + cond l.raised 1 0

use Rattle.std.proofs.Common.{◌≡◌, ◌+◌, ◌*◌, ◌≤◌, false, arith, ◌∙◌, ap, subst}
use Rattle.flow_net.specs.Networks.{DemandsView, lacks_of, load_of_view}
use Rattle.flow_net.specs.Counts.{edges, job_count}
use Rattle.flow_net.proofs.Allots.{step_cost}
use Rattle.flow_net.proofs.allotting.search_all.Goals as goal

pub loop-raised-preserved : goal.loop-raised-preserved
loop-raised-preserved g c =
    let inv = c.loop-raised.invariant in
    let same = inv.demands in
    let d = c.args.net.now.demands in
    let old = c.loop-raised.net in
    let new = c.search-raised.new.self in
    let known = c.search-raised.ensures in
    let cost : c.search-raised.new.steps ≤ c.loop-raised.steps + 2 * edges (load_of_view d)
    = subst (λ (x : DemandsView). c.search-raised.new.steps
    ≤ c.loop-raised.steps + 2 * edges (load_of_view x)) same known.cost in
    let last = λ (e : c.search-raised.result ≡ false).
    subst (λ (x : DemandsView). c.search-raised.new.steps
    ≤ c.loop-raised.steps + job_count (load_of_view x)) same (known.last e) in
    let none = λ (e : c.search-raised.result ≡ false).
    let r : lacks_of new ≡ 0 = ap lacks_of (known.kept e) ∙ known.done e in r in
    record {
      network = λ _. known.network;
      demands = known.demands ∙ same;
      done = none;
      cost = step_cost c.loop-raised.steps c.search-raised.new.steps c.args.steps.now (edges (load_of_view d))
          (lacks_of old)
          (lacks_of new) (lacks_of c.args.net.now) (job_count (load_of_view d)) c.search-raised.result
          known.raised none cost last (let before =
          rw c.loop-raised-test.true at inv.cost in omega (arith, before));
    }

use Rattle.std.proofs.Common.{◌≡◌, ◌+◌, arith, ◌∙◌, inl, inr}
use Rattle.std.proofs.lemmas.Bool.{cases_eq}
use Rattle.flow_net.specs.Inside.Demanded.{load}
use Rattle.flow_net.specs.Counts.{admitted_below, is_due}
use Rattle.flow_net.specs.Inside.Reaching.{reached_of, link_at}
use Rattle.tab_core.proofs.Totals.{total-step}
use Rattle.flow_net.proofs.Reading.{more_trans}
use Rattle.flow_net.proofs.reach.read_back.Goals as goal

pub loop-v-preserved : goal.loop-v-preserved
loop-v-preserved g c =
    let d = c.args.demands.now in
    let o = reached_of c.args.reach.now in
    let q = reached_of c.loop-v.reach in
    let n = reached_of c.follow_back.new.reach in
    let i = (link_at c.args.reach.now.queue.items c.args.head).interval in
    let here : (link_at c.loop-v.reach.queue.items c.args.head).interval
    ≡ i = c.loop-v.invariant.links.at c.args.head c.requires.link in
    let in_round = c.requires.search.interval c.args.head c.requires.link in
    record {
      places = c.follow_back.ensures.places;
      search = c.follow_back.ensures.search;
      jobwise = c.follow_back.ensures.jobwise;
      links = more_trans o q n c.loop-v.invariant.links c.follow_back.ensures.links;
      reads = λ v j a b. omega (arith, c.loop-v.invariant.reads v j a b, c.follow_back.ensures.reads v j a b);
      followed = λ v lt some. elim (cases_eq v c.loop-v.v) [
        | inl e ↦ (let now = rw here at c.follow_back.ensures.followed in rw e (now (rw e at some)))
        | inr ne ↦ (let old = c.loop-v.invariant.followed v (omega (arith, lt, ne)) some in
            omega (
              arith,
              old,
              c.follow_back.ensures.reads v i
                  (omega (arith, lt, c.loop-v-test.true, c.len-v-end.ensures, d.costs.ok.0)) in_round,
            ))
      ];
      cost = (let inv = c.loop-v.invariant.cost in let new = c.follow_back.ensures.cost in
          let step : admitted_below (load d) (c.loop-v.v + 1)
          ≡ admitted_below (load d) c.loop-v.v + is_due (load d) c.loop-v.v =
          total-step (is_due (load d)) c.loop-v.v in
          omega (arith, inv, new, step));
      root_vcpu = c.follow_back.ensures.root_vcpu ∙ c.loop-v.invariant.root_vcpu;
      root_job = c.follow_back.ensures.root_job ∙ c.loop-v.invariant.root_job;
    }

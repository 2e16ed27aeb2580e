use Rattle.std.proofs.Common.{◌≡◌, ℕ, ◌+◌, ◌*◌, ◌≤◌, ◌∙◌, subst, arith}
use Rattle.flow_net.specs.Networks.{DemandsView, IsNetwork, NetView, lacks_of, load_of_view}
use Rattle.flow_net.specs.Counts.{edges, job_count, admitted}
use Rattle.flow_net.proofs.Allots.{saturate_cost, few_admitted}
use Rattle.flow_net.proofs.allotting.saturate.Goals as goal

-- the three parts of the work, whose networks have the same demands
together : (n0 n1 n2 : NetView) (s0 s1 s2 s3 : ℕ) → IsNetwork n1 → n1.demands ≡ n0.demands
    → n2.demands ≡ n1.demands
    → lacks_of n1 + 1 ≡ lacks_of n0 → lacks_of n2 ≤ lacks_of n1
    → lacks_of n0 + job_count (load_of_view n0.demands) ≤ admitted (load_of_view n0.demands) * (load_of_view n0.demands).count
    → s1 ≤ s0 + 2 * edges (load_of_view n0.demands)
    → s2 ≤ s1 + (load_of_view n1.demands).count * (2 * admitted (load_of_view n1.demands) + 1)
    → s3 ≤ s2 + 2 * edges (load_of_view n2.demands) * lacks_of n2 + job_count (load_of_view n2.demands)
    → s3 ≤ s0 + 2 * (admitted (load_of_view n0.demands) * (load_of_view n0.demands).count) * edges (load_of_view n0.demands)
together n0 n1 n2 s0 s1 s2 s3 net same same' less less' most cost cost' cost'' =
    let l = load_of_view n0.demands in
    let few : admitted l ≤ job_count l
    = subst (λ (d : DemandsView). admitted (load_of_view d)
    ≤ job_count (load_of_view d)) same (few_admitted (load_of_view n1.demands) net.load_ok) in
    let cost2 = subst (λ (d : DemandsView). s2
    ≤ s1 + (load_of_view d).count * (2 * admitted (load_of_view d) + 1)) same cost' in
    let cost3 = subst (λ (d : DemandsView). s3
    ≤ s2 + 2 * edges (load_of_view d) * lacks_of n2 + job_count (load_of_view d)) (same' ∙ same) cost'' in
    saturate_cost s0 s1 s2 s3 (admitted l) l.count (job_count l) (lacks_of n0) (lacks_of n1)
    (lacks_of n2) less less' most few cost cost2 cost3

pub returns-in_ok-fill-clause-cost : goal.returns-in_ok-fill-clause-cost
returns-in_ok-fill-clause-cost g c =
    together c.args.net.now c.search.new.self c.fill.new.self c.args.steps.now c.search.new.steps
    c.fill.new.steps c.search_all.new.steps
    c.search.ensures.network c.search.ensures.demands c.fill.ensures.demands
    (c.search.ensures.raised c.if-search.true)
    c.fill.ensures.lacks c.requires.lacks
    c.search.ensures.cost c.fill.ensures.cost c.search_all.ensures.cost

pub returns-in_err-fill-clause-cost : goal.returns-in_err-fill-clause-cost
returns-in_err-fill-clause-cost g c =
    together c.args.net.now c.search.new.self c.fill.new.self c.args.steps.now c.search.new.steps
    c.fill.new.steps c.fill.new.steps
    c.search.ensures.network c.search.ensures.demands c.fill.ensures.demands
    (c.search.ensures.raised c.if-search.true)
    c.fill.ensures.lacks c.requires.lacks
    c.search.ensures.cost c.fill.ensures.cost (omega arith)

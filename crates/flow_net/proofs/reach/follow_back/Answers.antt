use Rattle.std.proofs.Common.{◌≡◌, ℕ, ◌<◌, get_or, arith, sym, ◌∙◌, ap}
use Rattle.std.proofs.lemmas.List.{get_or_read}
use Rattle.flow_net.specs.declared.demands.Demands.{Demands}
use Rattle.flow_net.specs.declared.flow.Flow.{Flow}
use Rattle.flow_net.specs.declared.reach.Reach.{Reach}
use Rattle.flow_net.specs.Load.{job}
use Rattle.flow_net.specs.Flows.{flow_of, lack_of}
use Rattle.flow_net.specs.Inside.Demanded.{load}
use Rattle.flow_net.specs.Rows.{ticks_at}
use Rattle.flow_net.specs.Inside.Reaching.{reached_of, link_at, IsSearchOf}
use Rattle.flow_net.proofs.Nets.{net_place}
use Rattle.flow_net.proofs.Links.{edge_place}
use Rattle.flow_net.proofs.Back.{can_follow, link_place, due_is, due_none, flow_le}
use Rattle.flow_net.proofs.Spans.{job_in}
use Rattle.flow_net.proofs.reach.follow_back.Goals as goal

-- the link's interval
in_round : (d : Demands) (f : Flow) (r : Reach) (i head : ℕ) → IsSearchOf d f r → head < r.tail
    → i ≡ (link_at r.queue.items head).interval → i < (load d).count
in_round d f r i head s h e = rw e (s.interval head h)

-- the cost that was read
cost_is : (d : Demands) (v n : ℕ) → v < (load d).width → n ≡ get_or d.costs.items v n → n ≡ (load d).cost v
cost_is d v n h e = get_or_read d.costs.items v n h e 0

cost_pos : (d : Demands) (v n : ℕ) → v < (load d).width → n ≡ get_or d.costs.items v n → 0 < n
    → 0 < (load d).cost v
cost_pos d v n h e some = omega (arith, cost_is d v n h e, some)

pub returns-then-index-eq0-clause-followed : goal.returns-then-index-eq0-clause-followed
returns-then-index-eq0-clause-followed g c some =
    let d = c.args.demands.now in
    let f = c.args.flow.now in
    let i = (link_at c.args.reach.now.queue.items c.args.head).interval in
    let most = flow_le (load d) d.ok (flow_of f.rows.items) (lack_of f.lacks.items)
    (λ j. get_or f.room.items j 0) (load d).count c.args.v i
    c.requires.net.flow c.requires.vcpu (c.requires.search.interval c.args.head c.requires.link) in
    absurd (omega (
      arith,
      some,
      most,
      cost_is d c.args.v c.index.result.now c.requires.vcpu c.index.ensures,
      c.if-index-eq0.true,
    ))

pub returns-then-index-eq0-clause-cost : goal.returns-then-index-eq0-clause-cost
returns-then-index-eq0-clause-cost g c =
    let d = c.args.demands.now in
    omega (
      arith,
      due_none (load d) c.args.v
          (omega (
            arith,
            cost_is d c.args.v c.index.result.now c.requires.vcpu c.index.ensures,
            c.if-index-eq0.true,
          )),
    )

pub interval_at-i-requires : goal.interval_at-i-requires
interval_at-i-requires g c =
    let r = c.args.reach.now in
    omega (
      arith,
      c.requires.places.queue,
      link_place (load c.args.demands.now) (flow_of c.args.flow.now.rows.items) r.root_vcpu r.root_job
          (reached_of r) c.args.head c.requires.search c.requires.link,
    )

pub read-ticks-requires : goal.read-ticks-requires
read-ticks-requires g c =
    let d = c.args.demands.now in
    let f = c.args.flow.now in
    net_place (load d) f.rows.items f.lacks.items f.room.items (load d).count c.args.v c.interval_at-i.result
    c.requires.net c.requires.vcpu
    (in_round d f c.args.reach.now c.interval_at-i.result c.args.head c.requires.search c.requires.link
    c.interval_at-i.ensures)

pub read-reads-requires : goal.read-reads-requires
read-reads-requires g c =
    let d = c.args.demands.now in
    edge_place (load d) c.args.reach.now c.interval_at-i.result c.args.v c.requires.places c.requires.vcpu
    (in_round d c.args.flow.now c.args.reach.now c.interval_at-i.result c.args.head c.requires.search
    c.requires.link c.interval_at-i.ensures)

pub read_job-requires-clause-can : goal.read_job-requires-clause-can
read_job-requires-clause-can g c =
    let d = c.args.demands.now in
    let f = c.args.flow.now in
    let r = c.args.reach.now in
    let i = (link_at r.queue.items c.args.head).interval in
    let k : c.job-k.result ≡ job (load d) c.args.v i = c.job-k.ensures
    ∙ ap (λ n. job (load d) c.args.v n) c.interval_at-i.ensures in
    let ticks : c.read-ticks.result ≡ ticks_at f.rows.items i c.args.v = c.read-ticks.ensures
    ∙ ap (λ n. ticks_at f.rows.items n c.args.v) c.interval_at-i.ensures in
    let reads : c.read-reads.result ≡ ticks_at r.scans.items i c.args.v = c.read-reads.ensures
    ∙ ap (λ n. ticks_at r.scans.items n c.args.v) c.interval_at-i.ensures in
    rw k (can_follow (load d) (flow_of f.rows.items) r.root_vcpu r.root_job (reached_of r) c.args.head
    c.args.v c.requires.search c.requires.jobwise
    c.requires.link c.requires.vcpu
    (due_is (load d) c.args.v (cost_pos d c.args.v c.index.result.now c.requires.vcpu c.index.ensures
    (omega (arith, c.if-index-eq0.false)))) (omega (arith, ticks, c.if-ticks-eq0.false))
    (omega (arith, reads, c.if-reads-gt0.false)))

pub read_job-requires-clause-job : goal.read_job-requires-clause-job
read_job-requires-clause-job g c =
    let d = c.args.demands.now in
    rw c.job-k.ensures (job_in (load d) d.ok c.args.v c.interval_at-i.result c.requires.vcpu
    (in_round d c.args.flow.now c.args.reach.now c.interval_at-i.result c.args.head c.requires.search
    c.requires.link c.interval_at-i.ensures))

pub read_job-requires-clause-unread : goal.read_job-requires-clause-unread
read_job-requires-clause-unread g c j h e =
    let d = c.args.demands.now in
    let r = c.args.reach.now in
    let i = c.interval_at-i.result in
    let same = c.requires.jobwise c.args.v j i c.requires.vcpu h
    (in_round d c.args.flow.now r i c.args.head c.requires.search c.requires.link c.interval_at-i.ensures)
    (e ∙ c.job-k.ensures) in
    omega (arith, same, c.read-reads.ensures, c.if-reads-gt0.false)

pub returns-clause-followed : goal.returns-clause-followed
returns-clause-followed g c some =
    let d = c.args.demands.now in
    let i = (link_at c.args.reach.now.queue.items c.args.head).interval in
    let k : c.job-k.result ≡ job (load d) c.args.v i = c.job-k.ensures
    ∙ ap (λ n. job (load d) c.args.v n) c.interval_at-i.ensures in
    c.read_job.ensures.all i (c.requires.search.interval c.args.head c.requires.link) (sym k)

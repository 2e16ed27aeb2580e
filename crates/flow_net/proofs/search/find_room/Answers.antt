use Rattle.std.proofs.Common.{◌≡◌, ◌+◌, ◌-◌, ◌<◌, get_or, arith, ◌∙◌}
use Rattle.std.proofs.lemmas.List.{get_or_read}
use Rattle.flow_net.specs.Flows.{flow_of, lack_of}
use Rattle.flow_net.specs.Inside.Demanded.{load}
use Rattle.flow_net.specs.Counts.{admitted}
use Rattle.flow_net.specs.Inside.Reaching.{reached_of, link_at}
use Rattle.flow_net.proofs.Found.{never_ends, rooted_more, read_up_more, cost_more, cost_all}
use Rattle.flow_net.proofs.Pushes.{tail_le}
use Rattle.flow_net.proofs.Spans.{count_le}
use Rattle.flow_net.proofs.search.find_room.Goals as goal

pub interval_at-i-requires : goal.interval_at-i-requires
interval_at-i-requires g c =
    let r = c.loop-head.reach in
    let l = load c.args.demands.now in
    omega (
      arith,
      c.loop-head.invariant.places.queue,
      tail_le l (reached_of r)
          c.loop-head.invariant.search.size,
      c.loop-head-test.true,
    )

pub returns-then-index-gt0-clause-cost : goal.returns-then-index-gt0-clause-cost
returns-then-index-gt0-clause-cost g c =
    let r = c.loop-head.reach in
    let l = load c.args.demands.now in
    let below = tail_le l (reached_of r) c.loop-head.invariant.search.size in
    omega (
      arith,
      c.loop-head.invariant.cost,
      c.tell.ensures,
      cost_more c.loop-head.head l.count (admitted l)
          (omega (arith, below, c.loop-head-test.true)),
    )

pub overflow_add-head : goal.overflow_add-head
overflow_add-head g c =
    let r = c.loop-head.reach in
    let d = c.args.demands.now in
    let below = tail_le (load d) (reached_of r) c.loop-head.invariant.search.size in
    omega (arith, below, c.loop-head-test.true, count_le (load d) d.ok)

pub loop-head-smaller : goal.loop-head-smaller
loop-head-smaller g c =
    let r = c.loop-head.reach in
    let d = c.args.demands.now in
    let below = tail_le (load d) (reached_of r) c.loop-head.invariant.search.size in
    let less : (load d).count - (c.loop-head.head + 1)
    < (load d).count - c.loop-head.head = omega (arith, below, c.loop-head-test.true) in
    less

pub loop-head-preserved : goal.loop-head-preserved
loop-head-preserved g c =
    let d = c.args.demands.now in
    let l = load d in
    let f = c.args.flow.now in
    let q = reached_of c.loop-head.reach in
    let n = reached_of c.read_back.new.reach in
    let inv = c.loop-head.invariant in
    let head = c.loop-head.head in
    let test = c.loop-head-test.true in
    let in_round : c.interval_at-i.result
    < l.count = rw c.interval_at-i.ensures (inv.search.interval head test) in
    let room = get_or_read f.room.items c.interval_at-i.result c.index.result.now
    (omega (arith, in_round, c.requires.net.room_len)) c.index.ensures 0 in
    let none : get_or f.room.items c.interval_at-i.result 0 ≡ 0 = omega (arith, room, c.if-index-gt0.false) in
    let none' : get_or f.room.items (link_at c.loop-head.reach.queue.items head).interval 0
    ≡ 0 = rw c.interval_at-i.ensures at none in
    record {
      places = c.read_back.ensures.places;
      search = c.read_back.ensures.search;
      jobwise = c.read_back.ensures.jobwise;
      reads = λ v i a b. omega (arith, inv.reads v i a b, c.read_back.ensures.reads v i a b);
      read_to = read_up_more l (flow_of f.rows.items) (λ i. get_or f.room.items i 0)
          c.loop-head.reach.root_vcpu c.loop-head.reach.root_job head q n
          inv.search inv.read_to test none' c.read_back.ensures.reads c.read_back.ensures.links.at
          c.read_back.ensures.followed;
      within = omega (arith, test, c.read_back.ensures.links.more);
      cost = omega (arith, inv.cost, c.tell.ensures, c.read_back.ensures.cost);
      root_vcpu = c.read_back.ensures.root_vcpu ∙ inv.root_vcpu;
      root_job = c.read_back.ensures.root_job ∙ inv.root_job;
    }

pub returns-clause-found : goal.returns-clause-found
returns-clause-found g c =
    let d = c.args.demands.now in
    let l = load d in
    let f = c.args.flow.now in
    let o = reached_of c.args.reach.now in
    let q = reached_of c.loop-head.reach in
    let inv = c.loop-head.invariant in
    let root = rooted_more l (lack_of f.lacks.items) c.args.reach.now.root_vcpu c.args.reach.now.root_job o q
    c.requires.rooted inv.reads in
    absurd (never_ends l (flow_of f.rows.items) (lack_of f.lacks.items) (λ i. get_or f.room.items i 0)
    c.loop-head.reach.root_vcpu c.loop-head.reach.root_job
    c.loop-head.head q d.ok d.fits c.requires.net.flow inv.search inv.jobwise
    (rw inv.root_vcpu (rw inv.root_job root)) inv.read_to c.loop-head-test.false)

pub returns-clause-cost : goal.returns-clause-cost
returns-clause-cost g c =
    let l = load c.args.demands.now in
    let inv = c.loop-head.invariant in
    omega (
      arith,
      inv.cost,
      cost_all c.loop-head.head l.count (admitted l)
          (omega (arith, inv.within, tail_le l (reached_of c.loop-head.reach) inv.search.size)),
    )

use Rattle.std.proofs.Common.{◌≡◌, ◌<◌, true, false, get_or, arith, sym, ◌∙◌, refl, length-set}
use Rattle.std.proofs.lemmas.Bool.{false≢true}
use Rattle.flow_net.specs.Rows.{ticks_at}
use Rattle.flow_net.specs.Load.{span, job}
use Rattle.flow_net.specs.Flows.{flow_of}
use Rattle.flow_net.specs.Inside.Demanded.{load}
use Rattle.flow_net.specs.Inside.Reaching.{reached_of}
use Rattle.flow_net.proofs.Links.{passed_at, pushed_at, edge_place, scans_places}
use Rattle.flow_net.proofs.Pushes.{pass_search, push_search, push_can, room_for}
use Rattle.flow_net.proofs.Spans.{count_le}
use Rattle.flow_net.proofs.reach.read_edge.Goals as goal

pub returns-then-near-clause-places : goal.returns-then-near-clause-places
returns-then-near-clause-places c =
    scans_places (load c.args.demands.now) c.args.reach.now _ c.args.j c.args.u c.requires.places
    c.requires.can.vcpu c.requires.interval
    c.raise_at.ensures refl refl

pub returns-then-near-clause-search : goal.returns-then-near-clause-search
returns-then-near-clause-search c =
    let l = load c.args.demands.now in
    let r = c.args.reach.now in
    let at = edge_place l r c.args.j c.args.u c.requires.places c.requires.can.vcpu c.requires.interval in
    rw c.raise_at.ensures (pass_search l (flow_of c.args.flow.now.rows.items) r.root_vcpu r.root_job
    (reached_of r) _ c.args.u c.args.j
    c.requires.search c.requires.can.vcpu c.requires.can.due c.requires.unread
    (λ far. absurd (false≢true (sym far ∙ sym c.is_near-near.ensures ∙ c.if-near.true)))
    (passed_at r.near.items r.scans.items r.queue.items r.tail c.args.j c.args.u at))

pub returns-then-read-length-clause-places : goal.returns-then-read-length-clause-places
returns-then-read-length-clause-places c =
    scans_places (load c.args.demands.now) c.args.reach.now _ c.args.j c.args.u c.requires.places
    c.requires.can.vcpu c.requires.interval
    c.raise_at.ensures refl refl

pub returns-then-read-length-clause-search : goal.returns-then-read-length-clause-search
returns-then-read-length-clause-search c =
    let d = c.args.demands.now in
    let l = load d in
    let r = c.args.reach.now in
    let at = edge_place l r c.args.j c.args.u c.requires.places c.requires.can.vcpu c.requires.interval in
    let read : c.read.result ≡ ticks_at c.args.flow.now.rows.items c.args.j c.args.u = c.read.ensures in
    let most = c.requires.net.flow.short c.args.u c.args.j c.requires.can.vcpu c.requires.interval in
    let full : ticks_at c.args.flow.now.rows.items c.args.j c.args.u ≡ span l c.args.j
    = omega (arith, read, most, c.if-read-length.true, c.length-length.ensures) in
    rw c.raise_at.ensures (pass_search l (flow_of c.args.flow.now.rows.items) r.root_vcpu r.root_job
    (reached_of r) _ c.args.u c.args.j
    c.requires.search c.requires.can.vcpu c.requires.can.due c.requires.unread (λ far. full)
    (passed_at r.near.items r.scans.items r.queue.items r.tail c.args.j c.args.u at))

-- there is a place for the link
pub index_mut-requires-2 : goal.index_mut-requires-2
index_mut-requires-2 c =
    let r = c.args.reach.now in
    let far : get_or r.near.items c.args.j false ≡ false = sym c.is_near-near.ensures ∙ c.if-near.false in
    let below = room_for (load c.args.demands.now) (reached_of r) c.args.j c.requires.search.size
    c.requires.interval far in
    omega (arith, below, c.requires.places.queue, r.queue.ok.0)

pub overflow_add-reach : goal.overflow_add-reach
overflow_add-reach c =
    let r = c.args.reach.now in
    let d = c.args.demands.now in
    let far : get_or r.near.items c.args.j false ≡ false = sym c.is_near-near.ensures ∙ c.if-near.false in
    let below = room_for (load d) (reached_of r) c.args.j c.requires.search.size c.requires.interval far in
    omega (arith, below, count_le (load d) d.ok)

pub returns-clause-places : goal.returns-clause-places
returns-clause-places c =
    let r = c.args.reach.now in
    scans_places (load c.args.demands.now) c.args.reach.now _ c.args.j c.args.u c.requires.places
    c.requires.can.vcpu c.requires.interval
    c.raise_at.ensures (length-set r.near.items c.args.j true) (length-set r.queue.items r.tail _)

pub returns-clause-search : goal.returns-clause-search
returns-clause-search c =
    let d = c.args.demands.now in
    let l = load d in
    let r = c.args.reach.now in
    let at = edge_place l r c.args.j c.args.u c.requires.places c.requires.can.vcpu c.requires.interval in
    let far : get_or r.near.items c.args.j false ≡ false = sym c.is_near-near.ensures ∙ c.if-near.false in
    let below = room_for l (reached_of r) c.args.j c.requires.search.size c.requires.interval far in
    let read : c.read.result ≡ ticks_at c.args.flow.now.rows.items c.args.j c.args.u = c.read.ensures in
    let short : ticks_at c.args.flow.now.rows.items c.args.j c.args.u < span l c.args.j
    = omega (arith, read, c.if-read-length.false, c.length-length.ensures) in
    let pushed = pushed_at r.near.items r.scans.items r.queue.items r.tail c.args.j c.args.u
    (record { interval = c.args.j; vcpu = c.args.u; back = c.args.back }) at
    (omega (arith, c.requires.places.near, c.requires.interval))
    (omega (arith, c.requires.places.queue, below)) refl refl in
    rw c.raise_at.ensures (push_search l (flow_of c.args.flow.now.rows.items) r.root_vcpu r.root_job
    (reached_of r) _ c.args.u c.args.j
    (job l c.args.u c.args.j) c.args.back
    c.requires.search c.requires.can c.requires.interval refl c.requires.unread far short pushed)

pub returns-clause-can : goal.returns-clause-can
returns-clause-can c =
    let d = c.args.demands.now in
    let l = load d in
    let r = c.args.reach.now in
    let at = edge_place l r c.args.j c.args.u c.requires.places c.requires.can.vcpu c.requires.interval in
    let far : get_or r.near.items c.args.j false ≡ false = sym c.is_near-near.ensures ∙ c.if-near.false in
    let below = room_for l (reached_of r) c.args.j c.requires.search.size c.requires.interval far in
    let pushed = pushed_at r.near.items r.scans.items r.queue.items r.tail c.args.j c.args.u
    (record { interval = c.args.j; vcpu = c.args.u; back = c.args.back }) at
    (omega (arith, c.requires.places.near, c.requires.interval))
    (omega (arith, c.requires.places.queue, below)) refl refl in
    rw c.raise_at.ensures (push_can l (flow_of c.args.flow.now.rows.items) r.root_vcpu r.root_job
    (reached_of r) _ c.args.u c.args.j
    (job l c.args.u c.args.j) c.args.back c.requires.can pushed)

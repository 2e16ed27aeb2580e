use Rattle.std.proofs.Common.{◌≡◌, ℕ, ◌-◌, ◌<◌, length, refl, arith, ap, sym, ◌∙◌}
use Rattle.flow_net.specs.declared.demands.Demands.{Demands}
use Rattle.flow_net.specs.declared.flow.Flow.{Flow}
use Rattle.flow_net.specs.declared.reach.Reach.{Reach}
use Rattle.flow_net.specs.declared.reach.Link.{Link}
use Rattle.flow_net.specs.Load.{Load, job, span}
use Rattle.flow_net.specs.Flows.{flow_of}
use Rattle.flow_net.specs.Inside.Demanded.{load}
use Rattle.flow_net.specs.Inside.Reach.{IsKeptTo, IsSearch, Reached}
use Rattle.flow_net.specs.Inside.Reaching.{reached_of, link_at, HasPlaces, IsSearchOf}
use Rattle.flow_net.proofs.Pushes.{tail_le}
use Rattle.flow_net.proofs.Along.{kept_start, kept_more}
use Rattle.flow_net.proofs.search.move_along.Goals as goal

-- a link has a place in the queue
in_queue : (d : Demands) (f : Flow) (r : Reach) (x : ℕ) → HasPlaces (load d) r → IsSearchOf d f r
    → x < r.tail → x < length r.queue.items
in_queue d f r x places s h = omega (arith, places.queue, tail_le (load d) (reached_of r) s.size, h)

pub link_of-link-requires : goal.link_of-link-requires
link_of-link-requires c = in_queue c.args.demands.now c.args.flow.now c.args.reach.now c.args.end
    c.requires.places c.requires.search c.requires.link

-- the link before it
before : (d : Demands) (f : Flow) (r : Reach) (x : ℕ) (link : Link) → IsSearchOf d f r → x < r.tail
    → link ≡ link_at r.queue.items x
    → 0 < link.back → link.back - 1 < r.tail
before d f r x link s h is some =
    let b : link.back ≡ (link_at r.queue.items x).back = ap (λ (l : Link). l.back) is in
    omega (arith, b, s.back_le x h, h, some)

pub link_of-before-requires : goal.link_of-before-requires
link_of-before-requires c =
    let d = c.args.demands.now in
    in_queue d c.args.flow.now c.args.reach.now (c.loop-link.link.back - 1) c.requires.places
    c.requires.search
    (before d c.args.flow.now c.args.reach.now c.loop-link.x c.loop-link.link c.requires.search
    c.loop-link.invariant.within c.loop-link.invariant.is c.loop-link-test.true)

pub shift-requires-clause-from : goal.shift-requires-clause-from
shift-requires-clause-from c =
    let d = c.args.demands.now in
    rw c.link_of-before.ensures (c.requires.search.interval (c.loop-link.link.back - 1)
    (before d c.args.flow.now c.args.reach.now c.loop-link.x c.loop-link.link c.requires.search
    c.loop-link.invariant.within c.loop-link.invariant.is c.loop-link-test.true))

pub loop-link-init : goal.loop-link-init
loop-link-init c = record {
  within = c.requires.link;
  is = c.link_of-link.ensures;
  net = rw c.link_of-link.ensures at c.take_room.ensures.net;
  lacks = refl;
  kept = kept_start (flow_of c.take_room.new.flow.rows.items) (reached_of c.args.reach.now) c.args.end;
}

pub loop-link-preserved : goal.loop-link-preserved
loop-link-preserved c =
    let d = c.args.demands.now in
    let r = c.args.reach.now in
    let q = reached_of r in
    let inv = c.loop-link.invariant in
    let s = rw (← c.take_room.ensures.rows) at c.requires.search in
    let b : c.loop-link.link.back ≡ q.back c.loop-link.x = ap (λ (l : Link). l.back) inv.is in
    let kept = kept_more (load d) (flow_of c.take_room.new.flow.rows.items)
    (flow_of c.loop-link.flow.rows.items) (flow_of c.shift.new.flow.rows.items)
    r.root_vcpu r.root_job q c.loop-link.x s inv.within (omega (arith, b, c.loop-link-test.true))
    (rw inv.is at c.shift.ensures.others) inv.kept in
    record {
      within = before d c.args.flow.now r c.loop-link.x c.loop-link.link c.requires.search inv.within inv.is
          c.loop-link-test.true;
      is = c.link_of-before.ensures;
      net = rw c.link_of-before.ensures at c.shift.ensures.net;
      lacks = c.shift.ensures.lacks ∙ inv.lacks;
      kept = rw b kept;
    }

pub shift-requires-clause-vcpu : goal.shift-requires-clause-vcpu
shift-requires-clause-vcpu c =
    let inv = c.loop-link.invariant in
    rw inv.is (c.requires.search.vcpu c.loop-link.x inv.within)

pub shift-requires-clause-to : goal.shift-requires-clause-to
shift-requires-clause-to c =
    let inv = c.loop-link.invariant in
    rw inv.is (c.requires.search.interval c.loop-link.x inv.within)

pub shift-requires-clause-short : goal.shift-requires-clause-short
shift-requires-clause-short c =
    let inv = c.loop-link.invariant in
    let s = rw (← c.take_room.ensures.rows) at c.requires.search in
    rw inv.is (rw (inv.kept.here c.loop-link.x (omega arith)) (s.short c.loop-link.x inv.within))

pub shift-requires-clause-same : goal.shift-requires-clause-same
shift-requires-clause-same c =
    let inv = c.loop-link.invariant in
    let b = ap (λ (l : Link). l.back) inv.is in
    rw (c.link_of-before.ensures, inv.is)
    (c.requires.search.from_job c.loop-link.x inv.within (omega (arith, b, c.loop-link-test.true)))

pub shift-requires-clause-some : goal.shift-requires-clause-some
shift-requires-clause-some c =
    let inv = c.loop-link.invariant in
    let s = rw (← c.take_room.ensures.rows) at c.requires.search in
    let b = ap (λ (l : Link). l.back) inv.is in
    rw (c.link_of-before.ensures, inv.is)
    (rw (inv.kept.before c.loop-link.x (omega arith) (omega (arith, b, c.loop-link-test.true)))
    (s.from_some c.loop-link.x inv.within (omega (arith, b, c.loop-link-test.true))))

pub give-requires-clause-interval : goal.give-requires-clause-interval
give-requires-clause-interval c =
    let inv = c.loop-link.invariant in
    rw inv.is (c.requires.search.interval c.loop-link.x inv.within)

-- the last link moves a tick that the root's job still needs
at_root : (l : Load) (f : ℕ → ℕ → ℕ) (rv rk : ℕ) (q : Reached) (x : ℕ) → IsSearch l f rv rk q → x < q.tail
    → q.back x ≡ 0 → rk ≡ job l rv (q.at x)
at_root l f rv rk q x s h last =
    sym (s.root_job x h last) ∙ ap (λ v. job l v (q.at x)) (s.root_vcpu x h last)

-- the interval of the last link has fewer ticks of the root's vCPU than it is long
root_short : (l : Load) (f g : ℕ → ℕ → ℕ) (rv rk : ℕ) (q : Reached) (x : ℕ) → IsSearch l f rv rk q
    → IsKeptTo f g q x → x < q.tail → q.back x ≡ 0 → g rv (q.at x) < span l (q.at x)
root_short l f g rv rk q x s kept h last =
    rw (← s.root_vcpu x h last, kept.here x (omega arith)) (s.short x h)

pub give-requires-clause-job : goal.give-requires-clause-job
give-requires-clause-job c =
    let inv = c.loop-link.invariant in
    let r = c.args.reach.now in
    let b = ap (λ (l : Link). l.back) inv.is in
    rw inv.is (at_root (load c.args.demands.now) (flow_of c.args.flow.now.rows.items) r.root_vcpu r.root_job
    (reached_of r) c.loop-link.x c.requires.search inv.within (omega (arith, b, c.loop-link-test.false)))

pub give-requires-clause-short : goal.give-requires-clause-short
give-requires-clause-short c =
    let inv = c.loop-link.invariant in
    let r = c.args.reach.now in
    let b = ap (λ (l : Link). l.back) inv.is in
    rw inv.is (root_short (load c.args.demands.now) (flow_of c.take_room.new.flow.rows.items)
    (flow_of c.loop-link.flow.rows.items) r.root_vcpu r.root_job (reached_of r) c.loop-link.x
    (rw (← c.take_room.ensures.rows) at c.requires.search) inv.kept inv.within
    (omega (arith, b, c.loop-link-test.false)))

pub give-requires-clause-lacks : goal.give-requires-clause-lacks
give-requires-clause-lacks c =
    rw (c.loop-link.invariant.lacks, c.take_room.ensures.lacks) c.requires.lacks

pub returns-clause-lacks : goal.returns-clause-lacks
returns-clause-lacks c =
    rw (c.give.ensures.lacks, c.loop-link.invariant.lacks, c.take_room.ensures.lacks) refl

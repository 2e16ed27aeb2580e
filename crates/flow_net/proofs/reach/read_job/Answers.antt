use Rattle.std.proofs.Common.{◌≡◌, ℕ, ◌<◌, ◌≤◌, arith, ◌∙◌, subst}
use Rattle.flow_net.specs.declared.demands.Demands.{Demands}
use Rattle.flow_net.specs.Load.{job, Window}
use Rattle.flow_net.specs.Inside.Demanded.{load}
use Rattle.flow_net.specs.Inside.Reach.{AreEdgesRead}
use Rattle.flow_net.specs.Inside.Reaching.{reached_of}
use Rattle.flow_net.proofs.Moves.{Raised}
use Rattle.flow_net.proofs.Nets.{raised_rows}
use Rattle.flow_net.proofs.Links.{edge_place}
use Rattle.flow_net.proofs.Pushes.{scanned_more}
use Rattle.flow_net.proofs.Reading.{reading_more, reading_unread, reading_jobwise, reading_all, reading_keeps, more_trans}
use Rattle.flow_net.proofs.Spans.{window_job}
use Rattle.flow_net.proofs.reach.read_job.Goals as goal

-- the interval is one of the job's
in_job : (d : Demands) (u k from until j : ℕ) → Window (load d) u k from until → from ≤ j → j < until
    → job (load d) u j ≡ k
in_job d u k from until j w a b = window_job (load d) d.ok u k from until j w a b

pub read_edge-requires-clause-can : goal.read_edge-requires-clause-can
read_edge-requires-clause-can g c =
    let d = c.args.demands.now in
    let is_k = in_job d c.args.u c.args.k c.window-from.result.0 c.window-from.result.1 c.loop-j.j
    c.window-from.ensures c.loop-j.auto.j c.loop-j-test.true in
    rw is_k c.loop-j.invariant.can

pub read_edge-requires-clause-unread : goal.read_edge-requires-clause-unread
read_edge-requires-clause-unread g c =
    let d = c.args.demands.now in
    let w = c.window-from.ensures in
    let is_k = in_job d c.args.u c.args.k c.window-from.result.0 c.window-from.result.1 c.loop-j.j w
    c.loop-j.auto.j c.loop-j-test.true in
    reading_unread (load d) (reached_of c.args.reach.now) (reached_of c.loop-j.reach) c.args.u
    c.window-from.result.0 c.loop-j.j
    c.loop-j.invariant.reading (c.requires.unread c.loop-j.j (omega (arith, c.loop-j-test.true, w.in_round))
    is_k)

pub loop-j-preserved : goal.loop-j-preserved
loop-j-preserved g c =
    let d = c.args.demands.now in
    let w = c.window-from.ensures in
    let is_k = in_job d c.args.u c.args.k c.window-from.result.0 c.window-from.result.1 c.loop-j.j w
    c.loop-j.auto.j c.loop-j-test.true in
    let in_round : c.loop-j.j < (load d).count = omega (arith, c.loop-j-test.true, w.in_round) in
    let at = edge_place (load d) c.loop-j.reach c.loop-j.j c.args.u c.loop-j.invariant.places w.vcpu in_round
    in
    let up0 = raised_rows c.loop-j.reach.scans.items c.loop-j.j c.args.u at in
    let up : Raised (reached_of c.loop-j.reach).scan (reached_of c.read_edge.new.reach).scan c.args.u
    c.loop-j.j
    = rw c.read_edge.ensures.scans up0 in
    record {
      places = c.read_edge.ensures.places;
      search = c.read_edge.ensures.search;
      can = rw is_k at c.read_edge.ensures.can;
      links = more_trans (reached_of c.args.reach.now) (reached_of c.loop-j.reach)
          (reached_of c.read_edge.new.reach)
          c.loop-j.invariant.links c.read_edge.ensures.more;
      reading = reading_more (load d) (reached_of c.args.reach.now) (reached_of c.loop-j.reach)
          (reached_of c.read_edge.new.reach) c.args.u
          c.window-from.result.0 c.loop-j.j c.loop-j.invariant.reading c.loop-j.auto.j
          (c.requires.unread c.loop-j.j in_round is_k) up;
      cost = omega (
        arith,
        c.loop-j.invariant.cost,
        c.tell.ensures,
        scanned_more (load d) (reached_of c.loop-j.reach) (reached_of c.read_edge.new.reach) c.args.u
            c.loop-j.j w.vcpu in_round up,
      );
      root_vcpu = c.read_edge.ensures.root_vcpu ∙ c.loop-j.invariant.root_vcpu;
      root_job = c.read_edge.ensures.root_job ∙ c.loop-j.invariant.root_job;
    }

-- all edges were read
read_whole : (d : Demands) (from until j : ℕ) → (u : ℕ) → (q q' : _) → from < until → from ≤ j
    → (from ≤ until → j ≤ until) → until ≤ j
    → AreEdgesRead (load d) q q' u from j → AreEdgesRead (load d) q q' u from until
read_whole d from until j u q q' some a b e r = let same : j
    ≡ until = omega (arith, b (omega arith), e) in subst (AreEdgesRead (load d) q q' u from) same r

pub returns-clause-jobwise : goal.returns-clause-jobwise
returns-clause-jobwise g c =
    let d = c.args.demands.now in
    let w = c.window-from.ensures in
    let r = read_whole d c.window-from.result.0 c.window-from.result.1 c.loop-j.j c.args.u _ _ w.some
    c.loop-j.auto.j c.loop-j.auto.j-end c.loop-j-test.false
    c.loop-j.invariant.reading in
    reading_jobwise (load d) d.ok (reached_of c.args.reach.now) (reached_of c.loop-j.reach) c.args.u c.args.k
    c.window-from.result.0 c.window-from.result.1
    w r c.requires.jobwise

pub returns-clause-reads : goal.returns-clause-reads
returns-clause-reads g c =
    let d = c.args.demands.now in
    let w = c.window-from.ensures in
    let r = read_whole d c.window-from.result.0 c.window-from.result.1 c.loop-j.j c.args.u _ _ w.some
    c.loop-j.auto.j c.loop-j.auto.j-end c.loop-j-test.false
    c.loop-j.invariant.reading in
    reading_keeps (load d) d.ok (reached_of c.args.reach.now) (reached_of c.loop-j.reach) c.args.u c.args.k
    c.window-from.result.0 c.window-from.result.1
    w r c.requires.unread

pub returns-clause-all : goal.returns-clause-all
returns-clause-all g c i h e =
    let d = c.args.demands.now in
    let w = c.window-from.ensures in
    let r = read_whole d c.window-from.result.0 c.window-from.result.1 c.loop-j.j c.args.u _ _ w.some
    c.loop-j.auto.j c.loop-j.auto.j-end c.loop-j-test.false
    c.loop-j.invariant.reading in
    reading_all (load d) d.ok (reached_of c.args.reach.now) (reached_of c.loop-j.reach) c.args.u c.args.k
    c.window-from.result.0 c.window-from.result.1 i
    w r h e

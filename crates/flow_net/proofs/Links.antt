-- A search's lists after one edge was read.
use Rattle.std.proofs.Common.{◌≡◌, ℕ, ◌+◌, ◌<◌, Bool, true, false, List, length, set, ap, refl, ◌∙◌, arith}
use Rattle.std.proofs.lemmas.List.{get_or-set_same, get_or-set_other}
use Rattle.flow_net.specs.declared.reach.Link.{Link}
use Rattle.flow_net.specs.Load.{Load}
use Rattle.flow_net.specs.Rows.{row_at, ticks_at, IsPlace}
use Rattle.flow_net.specs.declared.reach.Reach.{Reach}
use Rattle.flow_net.specs.Inside.Reaching.{reached, HasPlaces}
use Rattle.flow_net.proofs.Cells.{length-with, length-row-with}
use Rattle.flow_net.proofs.Nets.{raised_at, raised_rows}
use Rattle.flow_net.proofs.Pushes.{Passed, Pushed}

-- an edge is read and reaches nothing new
pub passed_at : (near : List Bool) (scans : List (List ℕ)) (queue : List Link) (tail j u : ℕ)
    → IsPlace scans j u
    → Passed (reached near scans queue tail) (reached near (raised_at scans j u) queue tail) u j
passed_at near scans queue tail j u at = record {
  near = λ i. refl;
  scan = raised_rows scans j u at;
  tail = refl;
  at = λ x. refl;
  by = λ x. refl;
  back = λ x. refl;
}

-- an edge is read and reaches its interval
pub pushed_at : (near : List Bool) (scans : List (List ℕ)) (queue : List Link) (tail j u : ℕ) (link : Link) →
    IsPlace scans j u
    → j < length near → tail < length queue → link.interval ≡ j → link.vcpu ≡ u
    → Pushed (reached near scans queue tail)
    (reached (set near j true) (raised_at scans j u) (set queue tail link) (tail + 1)) u j link.back
pushed_at near scans queue tail j u link at in_near in_queue is_j is_u =
    let none : Link = record { interval = 0; vcpu = 0; back = 0 } in
    record {
      near_here = get_or-set_same near j true false in_near;
      near_else = λ i ne. get_or-set_other near j i true false ne;
      scan = raised_rows scans j u at;
      tail = refl;
      at_here = ap (λ (l : Link). l.interval) (get_or-set_same queue tail link none in_queue) ∙ is_j;
      by_here = ap (λ (l : Link). l.vcpu) (get_or-set_same queue tail link none in_queue) ∙ is_u;
      back_here = ap (λ (l : Link). l.back) (get_or-set_same queue tail link none in_queue);
      at = λ x ne. ap (λ (l : Link). l.interval) (get_or-set_other queue tail x link none ne);
      by = λ x ne. ap (λ (l : Link). l.vcpu) (get_or-set_other queue tail x link none ne);
      back = λ x ne. ap (λ (l : Link). l.back) (get_or-set_other queue tail x link none ne);
    }

-- each edge has its place
pub edge_place : (l : Load) (r : Reach) (j u : ℕ) → HasPlaces l r → u < l.width → j < l.count
    → IsPlace r.scans.items j u
edge_place l r j u places h in_round = record {
  row = omega (arith, places.scans);
  within = omega (arith, places.scan j in_round);
}

-- an edge keeps its place when it is read
pub scans_places : (l : Load) (r r' : Reach) (j u : ℕ) → HasPlaces l r → u < l.width → j < l.count
    → r'.scans.items ≡ raised_at r.scans.items j u → length r'.near.items ≡ length r.near.items
    → length r'.queue.items ≡ length r.queue.items → HasPlaces l r'
scans_places l r r' j u places h in_round scans near queue =
    let at = edge_place l r j u places h in_round in
    let n = ticks_at r.scans.items j u + 1 in
    record {
      near = near ∙ places.near;
      scans = ap (λ s. length s) scans ∙ length-with r.scans.items j u n ∙ places.scans;
      scan = λ i a. ap (λ s. length (row_at s i)) scans ∙ length-row-with r.scans.items j u n i at
          ∙ places.scan i a;
      queue = queue ∙ places.queue;
    }

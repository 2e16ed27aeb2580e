-- What a search costs, and what it does to the sum of all that is still needed.
use Rattle.std.proofs.Common.{◌≡◌, ℕ, zero, suc, ◌+◌, ◌*◌, ◌<◌, ◌≤◌, List, sym, arith, ⊎_elim}
use Rattle.std.proofs.lemmas.Bool.{cases_lt}
use Rattle.std.proofs.Math.Nat.{mul_comm}
use Rattle.tab_core.specs.Sums.{total}
use Rattle.flow_net.specs.Load.{Load, IsLoad, job, jobs, used}
use Rattle.flow_net.specs.Rows.{ticks_at}
use Rattle.flow_net.specs.Flows.{IsNet, all_lacks, lack_of}
use Rattle.flow_net.specs.Counts.{admitted, is_due}
use Rattle.flow_net.specs.Inside.Reach.{Reached, IsSearch, IsRooted, scanned}
use Rattle.tab_core.proofs.Totals.{total-ext, total-le, total-none, total-const}
use Rattle.flow_net.proofs.Moves.{total-more}
use Rattle.flow_net.proofs.Nets.{lack_place, lowered_lacks, lowered_at}
use Rattle.flow_net.proofs.Spans.{window_of, window_job}

-- a sum of fewer values is no more
pub total-part : (f : ℕ → ℕ) (m n : ℕ) → m ≤ n → total f m ≤ total f n
total-part f m zero h = let e : m ≡ 0 = omega arith in rw e (omega arith)
total-part f m (suc n) h =
    ⊎_elim (λ (lt : m < suc n). omega (arith, total-part f m n (omega arith)))
    (λ (ge : suc n ≤ m). let e : m ≡ suc n = omega arith in rw e (omega arith)) (cases_lt m (suc n))

-- where no job needs more, all together need nothing more
pub no_lacks : (l : Load) (lacks : List (List ℕ)) → ((v k : ℕ) → v < l.width → k < jobs l v
    → ticks_at lacks v k ≡ 0) → all_lacks l lacks ≡ 0
no_lacks l lacks none =
    total-none _ l.width (λ v h. total-none (lack_of lacks v) (jobs l v) (λ k lt. none v k h lt))

-- a tick given is one less that is needed
pub lacks_less : (l : Load) (rows lacks : List (List ℕ)) (room : List ℕ) (hole v k : ℕ)
    → IsNet l rows lacks room hole → v < l.width
    → k < jobs l v → 0 < ticks_at lacks v k → all_lacks l (lowered_at lacks v k) + 1 ≡ all_lacks l lacks
lacks_less l rows lacks room hole v k net h lt some =
    let at = lack_place l rows lacks room hole v k net h lt in
    let down = lowered_lacks lacks v k at some in
    let new = lowered_at lacks v k in
    sym (total-more (λ w. total (lack_of new w) (jobs l w)) (λ w. total (lack_of lacks w) (jobs l w)) l.width
    v h
    (total-more (lack_of new v) (lack_of lacks v) (jobs l v) k lt down.here
    (λ j ne. down.else v j (λ a b. ne b)))
    (λ w ne. total-ext (lack_of lacks w) (lack_of new w) (jobs l w) (λ j _. down.else w j (λ a b. ne a))))

-- each pair is read once at most
pub scanned_le : (l : Load) (f : ℕ → ℕ → ℕ) (rv rk : ℕ) (q : Reached) → IsSearch l f rv rk q
    → scanned l q ≤ admitted l * l.count
scanned_le l f rv rk q s =
    let each = total-le (used l q.scan) (λ i. admitted l) l.count
    (λ i h. total-le (λ v. q.scan v i) (is_due l) l.width (λ v a. s.once v i a h)) in
    omega (arith, each, total-const (admitted l) l.count, mul_comm l.count (admitted l))

-- the edges of a search, counted
pub cost_bound : (count k j scans : ℕ) → scans ≤ k * count
    → j + scans + count * (k + 1) ≤ 2 * (j + k * count + count)
cost_bound count k j scans h = let e : count * (k + 1)
    ≡ k * count + count = omega (arith, mul_comm count k) in omega (arith, h, e)

-- the job where a search began has an edge, and it was read
pub rooted_at : (l : Load) → IsLoad l → (lack : ℕ → ℕ → ℕ) (v k : ℕ) (q : Reached) → v < l.width
    → k < jobs l v → 0 < lack v k
    → ((i : ℕ) → i < l.count → job l v i ≡ k → 0 < q.scan v i) → IsRooted l lack v k q
rooted_at l ok lack v k q h lt some all =
    let s = window_of l ok v k h lt in
    let in_round : s.0 < l.count = omega (arith, s.2.some, s.2.in_round) in
    let is_k = window_job l ok v k s.0 s.1 s.0 s.2 (omega arith) s.2.some in
    record {
      vcpu = h;
      interval = s.0;
      in_round = in_round;
      job_is = is_k;
      read =
          all s.0 in_round is_k;
      lacks = some;
    }

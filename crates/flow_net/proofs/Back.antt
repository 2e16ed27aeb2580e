-- Reading on from a reached interval.
use Rattle.std.proofs.Common.{◌≡◌, ℕ, ◌+◌, ◌-◌, ◌<◌, ◌≤◌, ◌==◌, nat_lt, cond, ap, refl, sym, arith}
use Rattle.std.proofs.lemmas.Bool.{cond-true, cond-false, eq-eqb, lt-ltb, le-ltb}
use Rattle.flow_net.proofs.Pushes.{tail_le}
use Rattle.flow_net.specs.Load.{Load, IsLoad, IsFlow, job}
use Rattle.flow_net.specs.Counts.{is_due}
use Rattle.flow_net.specs.Inside.Reach.{Reached, IsSearch, CanReach, IsJobwise}
use Rattle.tab_core.proofs.Totals.{total-point}
use Rattle.flow_net.proofs.Spans.{job_in}

-- what a vCPU gets in an interval is at most its cost
pub flow_le : (l : Load) → IsLoad l → (f lack : ℕ → ℕ → ℕ) (room : ℕ → ℕ) (hole v i : ℕ)
    → IsFlow l f lack room hole
    → v < l.width → i < l.count → f v i ≤ l.cost v
flow_le l ok f lack room hole v i flow h h' =
    let k = job l v i in
    let here : cond (job l v i == k) (f v i) 0
    ≡ f v i = cond-true (job l v i == k) (f v i) 0 (eq-eqb k k refl) in
    let one = total-point (λ j. cond (job l v j == k) (f v j) 0) l.count i h' in
    omega (arith, here, one, flow.due v k h (job_in l ok v i h h'))

-- a vCPU with ticks in a reached interval may be read on from there
pub can_follow : (l : Load) (f : ℕ → ℕ → ℕ) (rv rk : ℕ) (q : Reached) (head v : ℕ) → IsSearch l f rv rk q
    → IsJobwise l q
    → head < q.tail → v < l.width → is_due l v ≡ 1 → 0 < f v (q.at head) → q.scan v (q.at head) ≡ 0
    → CanReach l f rv rk q v (job l v (q.at head)) (head + 1)
can_follow l f rv rk q head v s jobwise lt h due some none =
    let back : head + 1 - 1 ≡ head = omega arith in
    record {
      vcpu = h;
      due = due;
      back_le = omega (arith, lt);
      from_job = λ b. ap (λ n. job l v (q.at n)) (sym back);
      from_some = λ b. rw back some;
      root_vcpu = λ e. absurd (omega (arith, e));
      root_job = λ e. absurd (omega (arith, e));
      same = λ x a e e'.
          (let was_read : 0 < q.scan v (q.at x) = rw e at (s.read x a) in
          absurd (omega (
            arith,
            was_read,
            none,
            jobwise v (q.at x) (q.at head) h (s.interval x a)
                (s.interval head lt) e',
          )));
    }

-- each link has its place in the queue
pub link_place : (l : Load) (f : ℕ → ℕ → ℕ) (rv rk : ℕ) (q : Reached) (x : ℕ) → IsSearch l f rv rk q
    → x < q.tail → x < l.count
link_place l f rv rk q x s h = omega (arith, h, tail_le l q s.size)

-- a vCPU with a cost is admitted
pub due_is : (l : Load) (v : ℕ) → 0 < l.cost v → is_due l v ≡ 1
due_is l v h = cond-true {A = ℕ} (nat_lt 0 (l.cost v)) 1 0 (lt-ltb 0 (l.cost v) h)

-- one without is not
pub due_none : (l : Load) (v : ℕ) → l.cost v ≤ 0 → is_due l v ≡ 0
due_none l v h = cond-false {A = ℕ} (nat_lt 0 (l.cost v)) 1 0 (le-ltb 0 (l.cost v) h)

-- A number is of one edge at most.
use Rattle.std.proofs.Common.{◌≡◌, ℕ, suc, ◌+◌, ◌*◌, ◌<◌, ◌≤◌, Bool, true, false, cond, nat_lt, ap, refl, sym, ◌∙◌, arith, inl, inr}
use Rattle.std.proofs.lemmas.Bool.{cases_lt, cases_order, cond-false, cond-true, le-ltb, lt-ltb}
use Rattle.std.proofs.Math.Nat.{mul-le-mul_right}
use Rattle.tab_core.specs.Sums.{total}
use Rattle.flow_net.specs.Inside.Edges.{IsEdge}
use Rattle.flow_net.specs.Load.{Load, jobs}
use Rattle.flow_net.specs.Networks.{IsToInterval, IsToJob}
use Rattle.flow_net.specs.Counts.{admitted, admitted_below, is_due, job_count, jobs_due}
use Rattle.flow_net.specs.declared.edge.Edge.{Edge}
use Rattle.flow_net.specs.declared.edge.Edge.TheVariants.{ToInterval, ToJob, ToSink}
use Rattle.flow_net.proofs.Searched.{total-part}
use Rattle.tab_core.proofs.Totals.{at_most, total-step}

-- an admitted vCPU's jobs are due
pub all_due : (l : Load) (v : ℕ) → is_due l v ≡ 1 → jobs_due l v ≡ jobs l v
all_due l v due = elim (cases_lt 0 (l.cost v)) [
  | inl some ↦ cond-true (nat_lt 0 (l.cost v)) (jobs l v) 0 (lt-ltb 0 (l.cost v) some)
  | inr none ↦
      (let not : is_due l v ≡ 0 = cond-false {A = ℕ} (nat_lt 0 (l.cost v)) 1 0 (le-ltb 0 (l.cost v) none) in
      absurd (omega (arith, due, not)))
]

-- a place after the first values of a function is after those of one of them
same_place : (f : ℕ → ℕ) (v k w j : ℕ) → total f v + k ≡ total f w + j → k < f v → j < f w → (v ≡ w) × (k ≡ j)
same_place f v k w j same in_v in_w = elim (cases_order v w) [
  | inl e ↦ (e, omega (arith, ap (total f) e))
  | inr (inl less) ↦ absurd (omega (arith, total-part f (v + 1) w (omega arith), total-step f v))
  | inr (inr more) ↦ absurd (omega (arith, total-part f (w + 1) v (omega arith), total-step f w))
]

-- a number is one product and one rest
same_parts : (a i r j s : ℕ) → i * a + r ≡ j * a + s → r < a → s < a → (i ≡ j) × (r ≡ s)
same_parts a i r j s same in_r in_s = elim (cases_order i j) [
  | inl e ↦ (e, omega (arith, ap (λ n. n * a) e))
  | inr (inl less) ↦
      (let up = mul-le-mul_right a (let le : suc i ≤ j = omega arith in le) in
      let one : suc i * a ≡ i * a + a = omega arith in
      absurd (omega (arith, up, one)))
  | inr (inr more) ↦
      (let up = mul-le-mul_right a (let le : suc j ≤ i = omega arith in le) in
      let one : suc j * a ≡ j * a + a = omega arith in
      absurd (omega (arith, up, one)))
]

-- an edge to a job comes before those to intervals
below_jobs : (l : Load) (n v k : ℕ) → IsToJob l n v k → n < job_count l
below_jobs l n v k is =
    omega (
      arith,
      is.number,
      is.job_in,
      all_due l v is.due,
      total-step (jobs_due l) v,
      total-part (jobs_due l) (v + 1) l.width (omega (arith, is.vcpu)),
    )

-- fewer admitted vCPUs come before an admitted one than there are
pub rank_less : (l : Load) (v : ℕ) → v < l.width → is_due l v ≡ 1 → admitted_below l v < admitted l
rank_less l v lt due =
    omega (arith, due, total-step (is_due l) v, total-part (is_due l) (v + 1) l.width (omega arith))

-- an edge to an interval comes before those to the sink
below_sink : (l : Load) (n v i : ℕ) → IsToInterval l n v i → n < job_count l + l.count * admitted l
below_sink l n v i is =
    let rank = rank_less l v is.vcpu is.due in
    let up = mul-le-mul_right (admitted l) (let le : suc i ≤ l.count = omega (arith, is.interval) in le) in
    let one : suc i * admitted l ≡ i * admitted l + admitted l = omega arith in
    omega (arith, is.number, rank, up, one)

-- a number is of one edge
pub one_edge : (l : Load) (n : ℕ) (e d : Edge) → IsEdge l n e → IsEdge l n d → e ≡ d
one_edge l n (ToJob v k) (ToJob w j) is is' =
    let same = same_place (jobs_due l) v k w j (sym is.number ∙ is'.number)
    (omega (arith, is.job_in, all_due l v is.due)) (omega (arith, is'.job_in, all_due l w is'.due)) in
    rw (same.0, same.1) refl
one_edge l n (ToJob v k) (ToInterval w j) is is' = absurd (omega (arith, below_jobs l n v k is, is'.number))
one_edge l n (ToJob v k) (ToSink j) is is' = absurd (omega (arith, below_jobs l n v k is, is'.number))
one_edge l n (ToInterval v i) (ToJob w j) is is' = absurd (omega (arith, below_jobs l n w j is', is.number))
one_edge l n (ToInterval v i) (ToInterval w j) is is' =
    let rank = rank_less l v is.vcpu is.due in
    let rank' = rank_less l w is'.vcpu is'.due in
    let same = same_parts (admitted l) i (admitted_below l v) j (admitted_below l w)
    (omega (arith, is.number, is'.number)) rank rank' in
    let vcpu = same_place (is_due l) v 0 w 0 (omega (arith, same.1)) (omega (arith, is.due))
    (omega (arith, is'.due)) in
    rw (vcpu.0, same.0) refl
one_edge l n (ToInterval v i) (ToSink j) is is' = absurd (omega (arith, below_sink l n v i is, is'.number))
one_edge l n (ToSink i) (ToJob w j) is is' = absurd (omega (arith, below_jobs l n w j is', is.number))
one_edge l n (ToSink i) (ToInterval w j) is is' = absurd (omega (arith, below_sink l n w j is', is.number))
one_edge l n (ToSink i) (ToSink j) is is' = (let same : i
    ≡ j = omega (arith, is.number, is'.number) in rw same refl)

-- no more vCPUs are admitted than there are
pub admitted_le : (l : Load) → admitted l ≤ l.width
admitted_le l = at_most (is_due l) l.width (λ v. one (nat_lt 0 (l.cost v)))
  where
    one : (b : Bool) → cond b 1 0 ≤ 1
    one true = omega arith
    one false = omega arith

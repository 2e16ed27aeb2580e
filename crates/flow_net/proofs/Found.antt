-- A search that has read all that it reached has found room.
use Rattle.std.proofs.Common.{◌≡◌, ℕ, ◌+◌, ◌*◌, ◌<◌, ◌≤◌, nat_lt, ap, sym, ◌∙◌, arith, inl, inr}
use Rattle.std.proofs.lemmas.Bool.{cases_eq, false≢true, ltb-true, lt-ltb}
use Rattle.std.proofs.Math.Nat.{mul-le-mul_right}
use Rattle.flow_net.specs.Load.{Load, IsLoad, IsFlow}
use Rattle.flow_net.specs.Flows.{FitsCores}
use Rattle.flow_net.specs.Inside.Reach.{Reached, IsSearch, IsJobwise, IsReadUpTo, IsRooted, ReadsMore}
use Rattle.flow_net.proofs.Ends.{never_stuck_here}

-- the root stays read
pub rooted_more : (l : Load) (lack : ℕ → ℕ → ℕ) (rv rk : ℕ) (q q' : Reached) → IsRooted l lack rv rk q
    → ReadsMore l q q' → IsRooted l lack rv rk q'
rooted_more l lack rv rk q q' r more = record {
  vcpu = r.vcpu;
  interval = r.interval;
  in_round = r.in_round;
  job_is = r.job_is;
  read = omega (arith, r.read, more rv r.interval r.vcpu r.in_round);
  lacks = r.lacks;
}

-- a search with a root and no room left to read contradicts the cut
pub never_ends : (l : Load) (f lack : ℕ → ℕ → ℕ) (room : ℕ → ℕ) (rv rk head : ℕ) (q : Reached) → IsLoad l
    → FitsCores l
    → IsFlow l f lack room l.count → IsSearch l f rv rk q → IsJobwise l q → IsRooted l lack rv rk q
    → IsReadUpTo l f room q head
    → q.tail ≤ head → ⊥
never_ends l f lack room rv rk head q ok fits flow s jobwise root read_to all =
    never_stuck_here l f lack room (λ v i. nat_lt 0 (q.scan v i)) q.near rv root.interval ok fits flow
    (record {
      forth = λ w j a b seen far. s.forth w j a b (ltb-true 0 (q.scan w j) seen) far;
      full = λ j a near.
          (let x = s.queued j a near in
          let full : room (q.at x.0) ≡ 0 = read_to.full x.0 (omega (arith, x.1, all)) in
          rw x.2 at full);
      back = λ w j a b near unseen. elim (cases_eq (f w j) 0) [
        | inl e ↦ e
        | inr ne ↦ (let x = s.queued j b near in
            let some : 0 < f w (q.at x.0) = rw x.2 (omega (arith, ne)) in
            let was : 0 < q.scan w (q.at x.0) = read_to.back x.0 w (omega (arith, x.1, all)) a some in
            let here : 0 < q.scan w j = rw x.2 at was in
            absurd (false≢true (sym unseen ∙ lt-ltb 0 (q.scan w j) here)))
      ];
      jobwise = λ w j n a b c e. ap (λ m. nat_lt 0 m) (jobwise w j n a b c e);
      vcpu = root.vcpu;
      interval = root.in_round;
      root = lt-ltb 0 (q.scan rv root.interval) root.read;
      lacks = rw root.job_is root.lacks;
    })

-- one more interval was read
pub read_up_more : (l : Load) (f : ℕ → ℕ → ℕ) (room : ℕ → ℕ) (rv rk head : ℕ) (q q' : Reached)
    → IsSearch l f rv rk q
    → IsReadUpTo l f room q head → head < q.tail → room (q.at head) ≡ 0 → ReadsMore l q q'
    → ((x : ℕ) → x < q.tail → q'.at x ≡ q.at x)
    → ((v : ℕ) → v < l.width → 0 < f v (q.at head) → 0 < q'.scan v (q.at head))
    → IsReadUpTo l f room q' (head + 1)
read_up_more l f room rv rk head q q' s old lt full reads at followed = record {
  full = λ x h. elim (cases_eq x head) [
    | inl e ↦ ap room (at x (omega (arith, h, lt))) ∙ ap (λ n. room (q.at n)) e ∙ full
    | inr ne ↦ ap room (at x (omega (arith, h, lt))) ∙ old.full x (omega (arith, h, ne))
  ];
  back = λ x v h a some.
      (let same = at x (omega (arith, h, lt)) in
      let some' : 0 < f v (q.at x) = rw same at some in
      elim (cases_eq x head) [
        | inl e ↦ (let at_head : 0 < f v (q.at head) = rw e at some' in rw same (rw e (followed v a at_head)))
        | inr ne ↦ rw same (omega (
          arith,
          old.back x v (omega (arith, h, ne)) a some',
          reads v (q.at x) a
              (s.interval x (omega (arith, h, lt))),
        ))
      ]);
}

-- one link more and its edges back are within the bound
pub cost_more : (head count k : ℕ) → head < count → head * (k + 1) + 1 ≤ count * (k + 1)
cost_more head count k h = omega (
  arith,
  mul-le-mul_right (k + 1) (let q : head + 1
      ≤ count = omega arith in q),
)

-- all links and their edges back are within the bound
pub cost_all : (head count k : ℕ) → head ≤ count → head * (k + 1) ≤ count * (k + 1)
cost_all head count k h = mul-le-mul_right (k + 1) h

-- What a vCPU's jobs still need, interval by interval.
use Rattle.std.proofs.Common.{◌≡◌, ℕ, ◌+◌, ◌-◌, ◌*◌, ◌<◌, ◌≤◌, ◌==◌, cond, List, [], ◌∷◌, ◌++◌, length, length-append, get_or, ap, ◌∙◌, arith, ⊎_elim, inl, inr}
use Rattle.std.proofs.lemmas.Bool.{cases_eq, cases_lt, cond-false, cond-true, eq-eqb, ne_eqb}
use Rattle.std.proofs.lemmas.List.{get_or_append_left}
use Rattle.std.proofs.Math.Nat.{mul-le-mul_right, mul_comm}
use Rattle.std.proofs.Math.Seq.{get_or-append_seam}
use Rattle.flow_net.specs.Load.{IsLoad, Load, given, job, jobs}
use Rattle.flow_net.specs.Inside.Lacking.{AreLacksTo, given_before}
use Rattle.flow_net.proofs.Searched.{total-part}
use Rattle.flow_net.proofs.Spans.{job_in, job_is}
use Rattle.tab_core.proofs.Totals.{total-step}

-- an interval of another job
given-else : (l : Load) (f : ℕ → ℕ → ℕ) (v k i : ℕ) → (job l v i ≡ k → ⊥)
    → given_before l f v k (i + 1) ≡ given_before l f v k i
given-else l f v k i ne =
    let none = cond-false (job l v i == k) (f v i) 0 (ne_eqb (job l v i) k ne) in
    omega (arith, none, total-step (λ j. cond (job l v j == k) (f v j) 0) i)

-- an interval of the job
given-here : (l : Load) (f : ℕ → ℕ → ℕ) (v k i : ℕ) → job l v i ≡ k
    → given_before l f v k (i + 1) ≡ given_before l f v k i + f v i
given-here l f v k i e =
    let all = cond-true (job l v i == k) (f v i) 0 (eq-eqb (job l v i) k e) in
    omega (arith, all, total-step (λ j. cond (job l v j == k) (f v j) 0) i)

-- before the first interval
pub lacks_start : (l : Load) → IsLoad l → (f : ℕ → ℕ → ℕ) (v : ℕ) → v < l.width
    → AreLacksTo l f v [] (l.period v) (l.cost v) 0
lacks_start l ok f v h = record {
  end_is = omega arith;
  from = omega arith;
  until = omega (arith, ok.first, ok.some_period v h);
  here = omega arith;
  done = λ k lt. absurd (omega (arith, lt));
  later = λ k lt. omega arith;
}

-- the next interval is of the job that hasn't ended
job_of : (l : Load) → IsLoad l → (f : ℕ → ℕ → ℕ) (v : ℕ) (lacks : List ℕ) (end left i : ℕ) → v < l.width
    → AreLacksTo l f v lacks end left i → job l v i ≡ length lacks
job_of l ok f v lacks end left i h s = job_is l ok v i (length lacks) h s.from
    (omega (arith, s.until, s.end_is))

-- it gets no more than it still needs
pub lack_most : (l : Load) → IsLoad l → (f : ℕ → ℕ → ℕ) (v : ℕ) (lacks : List ℕ) (end left i : ℕ)
    → v < l.width → i < l.count → AreLacksTo l f v lacks end left i
    → ((k : ℕ) → k < jobs l v → given l f v k ≤ l.cost v) → f v i ≤ left
lack_most l ok f v lacks end left i h lt s most =
    let e = job_of l ok f v lacks end left i h s in
    let in_round : length lacks < jobs l v = omega (arith, e, job_in l ok v i h lt) in
    let part = total-part (λ j. cond (job l v j == length lacks) (f v j) 0) (i + 1) l.count
    (omega (arith, lt)) in
    omega (arith, s.here, given-here l f v (length lacks) i e, part, most (length lacks) in_round)

-- an interval more, in which the job doesn't end
pub lacks_more : (l : Load) → IsLoad l → (f : ℕ → ℕ → ℕ) (v : ℕ) (lacks : List ℕ) (end left i : ℕ)
    → v < l.width → i < l.count → AreLacksTo l f v lacks end left i → f v i ≤ left
    → (l.mark (i + 1) ≡ end → ⊥) → AreLacksTo l f v lacks end (left - f v i) (i + 1)
lacks_more l ok f v lacks end left i h lt s most ne =
    let e = job_of l ok f v lacks end left i h s in
    let up : l.mark (i + 1) ≤ (length lacks + 1) * l.period v = rw e at (ok.inside v i h lt) in
    record {
      end_is = s.end_is;
      from = omega (arith, s.from, ok.rise i lt);
      until = ⊎_elim (λ (same : l.mark (i + 1) ≡ end). absurd (ne same))
          (λ other. omega (arith, up, s.end_is, other)) (cases_eq (l.mark (i + 1)) end);
      here = omega (arith, s.here, given-here l f v (length lacks) i e, most);
      done = λ k below. omega (arith, s.done k below, given-else l f v k i (λ q. omega (arith, q, e, below)));
      later = λ k above. omega (
        arith,
        s.later k above,
        given-else l f v k i
            (λ q. omega (arith, q, e, above)),
      );
    }

-- an interval more, at whose end the job ends
pub lacks_next : (l : Load) → IsLoad l → (f : ℕ → ℕ → ℕ) (v : ℕ) (lacks : List ℕ) (end left i : ℕ)
    → v < l.width → i < l.count → AreLacksTo l f v lacks end left i → f v i ≤ left
    → l.mark (i + 1) ≡ end
    → AreLacksTo l f v (lacks ++ (left - f v i) ∷ []) (end + l.period v) (l.cost v) (i + 1)
lacks_next l ok f v lacks end left i h lt s most is =
    let e = job_of l ok f v lacks end left i h s in
    let n = length lacks in
    let x = left - f v i in
    let len : length (lacks ++ x ∷ []) ≡ n + 1 = length-append lacks (x ∷ []) in
    let here = given-here l f v n i e in
    record {
      end_is = rw len (omega (arith, s.end_is));
      from = rw len (omega (arith, s.end_is, is));
      until = omega (arith, is, ok.some_period v h);
      here = rw len (omega (
        arith,
        s.later (n + 1) (omega arith),
        given-else l f v (n + 1) i (λ q. omega (arith, q, e)),
      ));
      done = λ k below. elim (cases_eq k n) [
        | inl same ↦
            let new : get_or (lacks ++ x ∷ []) k 0 ≡ x =
            ap (λ j. get_or (lacks ++ x ∷ []) j 0) same ∙ get_or-append_seam lacks x [] 0 in
            let all : given_before l f v k (i + 1) ≡ given_before l f v n (i + 1) =
            ap (λ j. given_before l f v j (i + 1)) same in
            omega (arith, new, all, s.here, here, most)
        | inr ne ↦
            let low : k < n = omega (arith, below, len, ne) in
            omega (
              arith,
              get_or_append_left lacks (x ∷ []) 0 k low,
              s.done k low,
              given-else l f v k i (λ q. omega (arith, q, e, low)),
            )
      ];
      later = λ k above.
          let high : n + 1 < k = omega (arith, above, len) in
          omega (
            arith,
            s.later k (omega (arith, high)),
            given-else l f v k i
                (λ q. omega (arith, q, e, high)),
          );
    }

-- after the last interval all jobs have ended
pub lacks_end : (l : Load) → IsLoad l → (f : ℕ → ℕ → ℕ) (v : ℕ) (lacks : List ℕ) (end left i : ℕ)
    → v < l.width → i ≡ l.count → AreLacksTo l f v lacks end left i → length lacks ≡ jobs l v
lacks_end l ok f v lacks end left i h last s =
    let n = length lacks in
    let round : l.mark i ≡ l.round = ap (λ j. l.mark j) last ∙ ok.last in
    let whole : jobs l v * l.period v ≡ l.round = mul_comm (jobs l v) (l.period v) ∙ ok.whole v h in
    ⊎_elim
    (λ (lt : n < jobs l v). absurd (omega (
      arith,
      round,
      whole,
      s.until,
      s.end_is,
      mul-le-mul_right (l.period v) (let q : n + 1 ≤ jobs l v = omega (arith, lt) in q),
    )))
    (λ (ge : jobs l v ≤ n). ⊎_elim
    (λ (gt : jobs l v < n). absurd (omega (
      arith,
      round,
      whole,
      s.from,
      ok.some_period v h,
      mul-le-mul_right (l.period v) (let q : jobs l v + 1 ≤ n = omega (arith, gt) in q),
    )))
    (λ (le : n ≤ jobs l v). omega (arith, ge, le))
    (cases_lt (jobs l v) n))
    (cases_lt n (jobs l v))

-- what each job still needs is listed
pub lacks_due : (l : Load) → IsLoad l → (f : ℕ → ℕ → ℕ) (v : ℕ) (lacks : List ℕ) (end left i : ℕ)
    → v < l.width → i ≡ l.count → AreLacksTo l f v lacks end left i → (k : ℕ) → k < jobs l v
    → get_or lacks k 0 + given l f v k ≡ l.cost v
lacks_due l ok f v lacks end left i h last s k lt =
    let len = lacks_end l ok f v lacks end left i h last s in
    let all : given_before l f v k i ≡ given l f v k = ap (λ n. given_before l f v k n) last in
    omega (arith, all, s.done k (omega (arith, len, lt)))

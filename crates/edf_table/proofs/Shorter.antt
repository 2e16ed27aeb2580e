-- Where a tight piece fits, one that is a tick shorter fits.
use Rattle.std.proofs.Common.{◌≡◌, ℕ, zero, suc, ◌+◌, ◌-◌, ◌*◌, ◌/◌, ◌<◌, ◌≤◌, Bool, true, false, cond, ◌&&◌, leb, List, [], ◌∷◌, ap, subst, sym, ◌∙◌, inl, inr, ◌⊎◌, arith}
use Rattle.std.proofs.lemmas.List.Sums.{sum_by-cons}
use Rattle.std.proofs.lemmas.Bool.{cases_lt, le-leb}
use Rattle.std.proofs.lemmas.Bool.Decides.{nat_tests}
use Rattle.tab_core.specs.declared.TheConstants.{ROUND}
use Rattle.tab_core.specs.Period.{IsPeriod}
use Rattle.tab_core.proofs.Periods.{period_facts}
use Rattle.table_form.specs.Planning.Jobs.{Job, Subtask, job_of, first_jobs}
use Rattle.table_form.specs.Planning.Demand.{demand_in, is_inside}
use Rattle.edf_table.proofs.Pieces.{first_jobs-suc, first_jobs-zero}
use Rattle.edf_table.proofs.LoadLemmas.{demand_in-append, demand_in-one, demand_in-none}
use Rattle.edf_table.specs.Beside.{FitsBeside, tight}

-- a longer interval needs no less
demand_term : (s e : ℕ) (j : Job)
    → cond (leb s j.release && leb j.deadline e) j.cost 0
    ≤ cond (leb s j.release && leb j.deadline (e + 1)) j.cost 0
demand_term s e j = grind (arith, nat_tests)

-- a longer interval has no less demand, over all jobs
demand_longer : (js : List Job) (s e : ℕ) → demand_in js s e ≤ demand_in js s (e + 1)
unfolding demand_in
demand_longer [] s e = omega arith
demand_longer (j ∷ js) s e =
    let rest = demand_longer js s e in
    let here = demand_term s e j in
    omega (
      arith,
      sum_by-cons (λ j. cond (leb s j.release && leb j.deadline e) j.cost 0) j js,
      sum_by-cons (λ j. cond (leb s j.release && leb j.deadline (e + 1)) j.cost 0) j js,
    )

-- one window more adds its cost where it is inside
pub demand_split : (p : Subtask) (n s e : ℕ)
    → demand_in (first_jobs p (suc n)) s e
    ≡ demand_in (first_jobs p n) s e + cond (is_inside s e (job_of p n)) p.cost 0
demand_split p n s e = ap (λ js. demand_in js s e) (first_jobs-suc p n)
    ∙ demand_in-append (first_jobs p n) (job_of p n ∷ []) s e
    ∙ ap (λ x. demand_in (first_jobs p n) s e + x) (demand_in-one (job_of p n) s e)

-- no windows need nothing
demand_start : (p : Subtask) (s e : ℕ) → demand_in (first_jobs p 0) s e ≡ 0
demand_start p s e = ap (λ js. demand_in js s e) (first_jobs-zero p) ∙ demand_in-none s e

-- the shorter piece lies inside exactly where the longer one does with one tick more
inside_alike : (v x f t n s e : ℕ) → 2 ≤ x
    → is_inside s e (job_of (tight v (x - 1) f t) n)
    ≡ is_inside s (e + 1) (job_of (tight v x f t) n)
inside_alike v x f t n s e two =
    ap (λ b. leb s (n * t + f) && b)
    (alike (n * t + (f + (x - 1))) (n * t + (f + x)) e (omega arith))
  where
    alike : (a b m : ℕ) → b ≡ a + 1 → leb a m ≡ leb b (m + 1)
    alike a b m e' = grind (arith, nat_tests)

-- it needs nothing, or less than the longer one with one tick more
less_or_none : (v x f t n s e : ℕ) → 2 ≤ x
    → (demand_in (first_jobs (tight v (x - 1) f t) n) s e ≡ 0)
    ⊎ (demand_in (first_jobs (tight v (x - 1) f t) n) s e
    < demand_in (first_jobs (tight v x f t) n) s (e + 1))
less_or_none v x f t zero s e two = inl (demand_start (tight v (x - 1) f t) s e)
less_or_none v x f t (suc n) s e two =
    let short = demand_split (tight v (x - 1) f t) n s e in
    let long = demand_split (tight v x f t) n s (e + 1) in
    let alike = inside_alike v x f t n s e two in
    let b = is_inside s (e + 1) (job_of (tight v x f t) n) in
    let short' : demand_in (first_jobs (tight v (x - 1) f t) (suc n)) s e
    ≡ demand_in (first_jobs (tight v (x - 1) f t) n) s e + cond b (x - 1) 0 =
    short ∙ ap (λ c. demand_in (first_jobs (tight v (x - 1) f t) n) s e + cond c (x - 1) 0) alike in
    step b (x - 1) x (demand_in (first_jobs (tight v (x - 1) f t) n) s e)
    (demand_in (first_jobs (tight v x f t) n) s (e + 1)) (omega arith) short' long
    (less_or_none v x f t n s e two)
  where
    step : (b : Bool) (y z p q : ℕ) {m k : ℕ} → y < z → m ≡ p + cond b y 0 → k ≡ q + cond b z 0
        → (p ≡ 0) ⊎ (p < q) → (m ≡ 0) ⊎ (m < k)
    step true y z p q lt em ek (inl none) = inr (omega arith)
    step true y z p q lt em ek (inr less) = inr (omega arith)
    step false y z p q lt em ek (inl none) = inl (omega arith)
    step false y z p q lt em ek (inr less) = inr (omega arith)

-- to the end of the round it needs no more than the longer one
no_more_at_end : (v x f t n s : ℕ) → 2 ≤ x → f + x ≤ t → n * t ≤ ROUND
    → demand_in (first_jobs (tight v (x - 1) f t) n) s ROUND
    ≤ demand_in (first_jobs (tight v x f t) n) s ROUND
no_more_at_end v x f t zero s two window round =
    let none = demand_start (tight v (x - 1) f t) s ROUND in omega arith
no_more_at_end v x f t (suc n) s two window round =
    let short = demand_split (tight v (x - 1) f t) n s ROUND in
    let long = demand_split (tight v x f t) n s ROUND in
    let before = no_more_at_end v x f t n s two window (omega arith) in
    let here : cond (is_inside s ROUND (job_of (tight v (x - 1) f t) n)) (x - 1) 0
    ≤ cond (is_inside s ROUND (job_of (tight v x f t) n)) x 0 =
    last (leb s (n * t + f)) (leb (n * t + (f + (x - 1))) ROUND) (leb (n * t + (f + x)) ROUND)
    (le-leb _ _ (omega arith)) in
    omega arith
  where
    last : (a b c : Bool) → c ≡ true → cond (a && b) (x - 1) 0 ≤ cond (a && c) x 0
    last true true true h = omega arith
    last true false true h = omega arith
    last false b true h = omega arith
    last a b false h = cc

-- a shorter piece fits where a longer one does, so bisection may search for the longest
pub shorter_fits : (jobs : List Job) (vcpu cost from period : ℕ) → IsPeriod period → 2 ≤ cost
    → from + cost ≤ period → FitsBeside jobs (tight vcpu cost from period) →
    FitsBeside jobs (tight vcpu (cost - 1) from period)
shorter_fits jobs v x f t is two window fits s e lt within =
    let facts = period_facts t is in
    let n = ROUND / t in
    let long = first_jobs (tight v x f t) n in
    let short = first_jobs (tight v (x - 1) f t) n in
    rw (demand_in-append jobs short s e) (elim (cases_lt e ROUND) [
      | inl before ↦
          (let bound =
          rw (demand_in-append jobs long s (e + 1)) at (fits s (e + 1) (omega arith) (omega arith)) in
          let here = rw (demand_in-append jobs long s e) at (fits s e lt within) in
          let longer = demand_longer jobs s e in
          elim (less_or_none v x f t n s e two) [ inl none ↦ omega arith | inr less ↦ omega arith ])
      | inr end ↦ (let e-is : e ≡ ROUND = omega arith in
          let whole : n * t ≤ ROUND = omega (arith, facts.whole) in
          let no_more = subst (λ m. demand_in short s m ≤ demand_in long s m) (sym e-is)
          (no_more_at_end v x f t n s two window whole) in
          let here = rw (demand_in-append jobs long s e) at (fits s e lt within) in
          omega arith)
    ])

-- A window without its cost at its end, and the overloaded interval that it makes.
use Rattle.std.proofs.Common.{◌≡◌, ℕ, ◌+◌, ◌-◌, ◌*◌, ◌/◌, ◌<◌, ◌≤◌, cond, ◌&&◌, eqb, leb, List, [], ◌∷◌, length, get_or, refl, subst, sym, inl, inr, arith}
use Rattle.std.proofs.lemmas.List.Sums.{sum_by-cons}
use Rattle.std.proofs.lemmas.Bool.{cases_lt}
use Rattle.std.proofs.lemmas.Bool.Decides.{nat_tests}
use Rattle.std.proofs.Math.Nat.{mul-le-mul_left}
use Rattle.tab_core.specs.declared.TheConstants.{ROUND}
use Rattle.tab_core.specs.declared.piece.Piece.{Piece}
use Rattle.tab_core.proofs.Periods.{period_facts}
use Rattle.table_form.specs.Planning.Jobs.{Job, job_of, subtask_of, jobs_of}
use Rattle.table_form.specs.Planning.Demand.{demand_in, Fits, IsOverloaded}
use Rattle.edf_table.specs.Inside.Progress.{AreJobsCounted, MetBefore, SomeMissed, ServedBelow, IsMissedAt, IsFirstEnd, had}
use Rattle.table_form.specs.Planning.Windows.{DistinctVcpus}
use Rattle.edf_table.specs.Inside.Progress.{demand_from}
use Rattle.edf_table.proofs.Criterion.{met_fits, miss_overloads}
use Rattle.edf_table.proofs.Steps.{met_more_any}
use Rattle.edf_table.proofs.Pieces.{job_among, jobs_of_distinct}

-- a window that ends in the round is one of the round's
pub ends_in_round : (p : Piece) (k tick : ℕ) → k * p.period + p.to ≡ tick → tick ≤ ROUND
    → k < ROUND / p.period
ends_in_round p k tick e le = elim (cases_lt k (ROUND / p.period)) [
  | inl here ↦ here
  | inr beyond ↦ (let facts = period_facts p.period p.listed in
      let more = mul-le-mul_left {m = ROUND / p.period} {n = k} p.period beyond in
      absurd (omega (arith, facts.whole, p.begins)))
]

-- a window without its cost at its end makes an overload
window_overloads : (ps : List Piece) (gs : List ℕ) (tick i : ℕ) (d : Piece) → DistinctVcpus ps
    → AreJobsCounted ps gs tick → i < length ps →
    IsMissedAt (get_or ps i d) (get_or gs i 0) tick → tick ≤ ROUND
    → (start : ℕ) × IsOverloaded (jobs_of ps) start tick
window_overloads ps gs tick i d apart counted i-in window le =
    let p = get_or ps i d in
    let k = window.0 in
    let job = job_of (subtask_of p) k in
    let has = counted.each i d i-in k in
    let lacks : had (jobs_of ps) job tick < p.cost = omega (arith, window.2, p.costs) in
    let lacks' : had (jobs_of ps) job (k * p.period + p.to) < p.cost =
    subst (λ n. had (jobs_of ps) job n < p.cost) (sym window.1) lacks in
    let found = miss_overloads (jobs_of ps) job (jobs_of_distinct ps apart)
    (job_among ps d i k i-in (ends_in_round p k tick window.1 le))
    (omega (arith, p.begins)) lacks' in
    let P : ℕ → Type 0 = λ n. (found.0 < n) × (n - found.0 < demand_in (jobs_of ps) found.0 n) in
    let at = subst P window.1 (found.1, found.2) in
    (found.0, record { some_ticks = at.0; within = le; too_much = at.1 })

-- a missed window of the piece that a search found makes an overload
missed_overloads : (ps : List Piece) (gs : List ℕ) (tick : ℕ) (d : Piece) → DistinctVcpus ps
    → AreJobsCounted ps gs tick → SomeMissed ps gs tick → tick ≤ ROUND →
    (start : ℕ) × IsOverloaded (jobs_of ps) start tick
missed_overloads ps gs tick d apart counted missed le =
    window_overloads ps gs tick missed.at d apart counted missed.in_range (missed.missed d) le

-- where the pieces fit, each window is given its cost by its end
pub fits_served : (ps : List Piece) (gs : List ℕ) (tick : ℕ) → DistinctVcpus ps → AreJobsCounted ps gs tick
    → Fits (jobs_of ps) → tick ≤ ROUND → ServedBelow ps gs tick (length ps)
fits_served ps gs tick apart counted fits le i d i-in k at =
    elim (cases_lt (get_or gs i 0) ((k + 1) * (get_or ps i d).cost)) [
      | inl short ↦ (let found = window_overloads ps gs tick i d apart counted i-in (k, at, short) le in
          let bound = fits found.0 tick found.1.some_ticks le in
          absurd (omega (arith, found.1.too_much)))
      | inr served ↦ served
    ]

-- the simulation of pieces that fit goes on with all met
pub fits_met : (ps : List Piece) (gs : List ℕ) (tick : ℕ) → DistinctVcpus ps → AreJobsCounted ps gs tick
    → MetBefore (jobs_of ps) tick → Fits (jobs_of ps) → tick ≤ ROUND
    → MetBefore (jobs_of ps) (tick + 1)
fits_met ps gs tick apart counted met fits le =
    met_more_any ps gs tick counted met (fits_served ps gs tick apart counted fits le)

-- without pieces nothing is missed
no_piece_missed : (gs : List ℕ) (tick : ℕ) → SomeMissed [] gs tick → ⊥
no_piece_missed gs tick missed = let lt = missed.in_range in omega arith

-- a missed window makes an overload, whatever piece comes first
missed_overloads_any : (ps : List Piece) (gs : List ℕ) (tick : ℕ) → DistinctVcpus ps
    → AreJobsCounted ps gs tick → SomeMissed ps gs tick → tick ≤ ROUND →
    (start : ℕ) × IsOverloaded (jobs_of ps) start tick
missed_overloads_any [] gs tick apart counted missed le = absurd (no_piece_missed gs tick missed)
missed_overloads_any (p ∷ ps) gs tick apart counted missed le =
    missed_overloads (p ∷ ps) gs tick p apart counted missed le

-- no interval that ends before a tick by which all is met is overloaded
overloads_end_later : (ps : List Piece) (tick : ℕ) → DistinctVcpus ps → MetBefore (jobs_of ps) tick
    → (s e : ℕ) → IsOverloaded (jobs_of ps) s e → tick ≤ e
overloads_end_later ps tick apart met s e over = elim (cases_lt e tick) [
  | inl before ↦
      (let fits = met_fits (jobs_of ps) s e (jobs_of_distinct ps apart)
      (λ j a due. met j a (omega arith)) (omega (arith, over.some_ticks)) in
      absurd (omega (arith, over.too_much)))
  | inr after ↦ after
]

-- the first window without its cost ends where the first overloaded interval ends
pub first_end : (ps : List Piece) (gs : List ℕ) (tick : ℕ) → DistinctVcpus ps → AreJobsCounted ps gs tick
    → MetBefore (jobs_of ps) tick → SomeMissed ps gs tick → tick ≤ ROUND →
    IsFirstEnd (jobs_of ps) tick
first_end ps gs tick apart counted met missed le =
    let found = missed_overloads_any ps gs tick apart counted missed le in
    record {
      within = le;
      begin = found.0;
      overloaded = found.1;
      least = overloads_end_later ps tick apart met;
    }

-- where all is met to the end of the round, the pieces fit
pub all_met_fits : (ps : List Piece) → DistinctVcpus ps → MetBefore (jobs_of ps) (ROUND + 1)
    → Fits (jobs_of ps)
all_met_fits ps apart met s e lt le =
    met_fits (jobs_of ps) s e (jobs_of_distinct ps apart) (λ j a due. met j a (omega arith))
    (omega arith)

-- the demand of an interval, by the windows that begin at its first tick
demand_term : (s e : ℕ) (j : Job) → cond (leb s j.release && leb j.deadline e) j.cost 0
    ≡ cond (leb (s + 1) j.release && leb j.deadline e) j.cost 0
    + cond (eqb j.release s && leb j.deadline e) j.cost 0
demand_term s e j = grind (arith, nat_tests)

-- the interval that begins a tick later, and the windows that begin at the tick: the search goes back by this
pub demand_step : (js : List Job) (s e : ℕ) → demand_in js s e ≡ demand_in js (s + 1) e + demand_from js s e
unfolding demand_in demand_from
demand_step [] s e = refl
demand_step (j ∷ js) s e =
    let rest = demand_step js s e in
    let here = demand_term s e j in
    omega (
      arith,
      sum_by-cons (λ j. cond (leb s j.release && leb j.deadline e) j.cost 0) j js,
      sum_by-cons (λ j. cond (leb (s + 1) j.release && leb j.deadline e) j.cost 0) j js,
      sum_by-cons (λ j. cond (eqb j.release s && leb j.deadline e) j.cost 0) j js,
    )

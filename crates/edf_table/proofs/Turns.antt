-- Which piece is ready, and that the most urgent piece has the tick.
use Rattle.std.proofs.Common.{◌≡◌, ℕ, ◌+◌, ◌-◌, ◌*◌, ◌/◌, ◌<◌, ◌≤◌, true, false, ltb, leb, List, length, get_or, Option, Some, None, refl, ap, subst, sym, ◌∙◌, inl, inr, arith}
use Rattle.std.proofs.Math.Nat.{le-div_iff_mul-le, div-mul-le_self, mul-le-mul_left}
use Rattle.std.proofs.lemmas.Bool.{cases_eq, cases_lt, false≢true, and_parts, and_from, leb-true, le-leb, ltb-true, lt-ltb}
use Rattle.tab_core.specs.declared.TheConstants.{ROUND}
use Rattle.tab_core.specs.declared.piece.Piece.{Piece}
use Rattle.tab_core.proofs.Periods.{period_facts}
use Rattle.table_form.specs.Planning.Jobs.{Job, job_of, subtask_of, jobs_of}
use Rattle.table_form.specs.Planning.EdfRow.{is_pending, edf_cells}
use Rattle.edf_table.specs.Inside.Progress.{Among, AreJobsCounted, MetBefore, IsDueFirst, IsMostUrgent, cell, had, window_no, is_ready}
use Rattle.table_form.specs.Planning.Windows.{DistinctVcpus}
use Rattle.edf_table.proofs.Counts.{Distinct, distinct_same, had_le_had}
use Rattle.edf_table.proofs.First.{IsFirst, NotAfter, first_pending_is}
use Rattle.edf_table.proofs.Pieces.{job_among, job_place, jobs_of_distinct}

-- a period has ticks, so it may divide
pub some_period : (p : Piece) → 0 < p.period
some_period p = let facts = period_facts p.period p.listed in omega (arith, facts.at_least)

-- a period has no more ticks than a round, so products of it are small
pub short_period : (p : Piece) → p.period ≤ ROUND
short_period p = let facts = period_facts p.period p.listed in omega (arith, facts.at_most)

-- the window that began last has begun
pub begun : (p : Piece) (tick : ℕ) → p.from ≤ tick → window_no p tick * p.period + p.from ≤ tick
begun p tick le = omega (arith, div-mul-le_self (tick - p.from) p.period)

-- a window that has begun is not after the one that began last
pub not_later : (p : Piece) (tick k : ℕ) → k * p.period + p.from ≤ tick → k ≤ window_no p tick
not_later p tick k le =
    (le-div_iff_mul-le {k = p.period} {x = k} {y = tick - p.from} (some_period p)).1 (omega arith)

-- an earlier window is over
pub earlier_is_over : (p : Piece) (tick k : ℕ) → p.from ≤ tick → k < window_no p tick
    → k * p.period + p.to ≤ tick
earlier_is_over p tick k le lt =
    let more = mul-le-mul_left {m = k + 1} {n = window_no p tick} p.period (omega arith) in
    omega (arith, begun p tick le, p.within)

-- a window that begins in the round is one of the round's
pub in_round : (p : Piece) (tick : ℕ) → p.from ≤ tick → tick < ROUND → window_no p tick < ROUND / p.period
in_round p tick le lt = elim (cases_lt (window_no p tick) (ROUND / p.period)) [
  | inl here ↦ here
  | inr beyond ↦ (let facts = period_facts p.period p.listed in
      let more = mul-le-mul_left {m = ROUND / p.period} {n = window_no p tick} p.period beyond in
      absurd (omega (arith, begun p tick le, facts.whole)))
]

-- the test of readiness, as facts on numbers
pub ready_parts : (p : Piece) (given tick : ℕ) → is_ready p given tick ≡ true
    → (p.from ≤ tick) × (given < (window_no p tick + 1) * p.cost)
ready_parts p given tick h =
    let both = and_parts (leb p.from tick) (ltb given ((window_no p tick + 1) * p.cost)) h in
    (leb-true _ _ both.0, ltb-true _ _ both.1)

-- what is due first is transitive, ties included
due_trans : (tick : ℕ) (a b c : Piece) → IsDueFirst tick a b → IsDueFirst tick b c → IsDueFirst tick a c
due_trans tick a b c (inl x) (inl y) = inl (omega arith)
due_trans tick a b c (inl x) (inr y) = inl (omega (arith, y.0))
due_trans tick a b c (inr x) (inl y) = inl (omega (arith, x.0))
due_trans tick a b c (inr x) (inr y) = inr (omega (arith, x.0, y.0), omega (arith, x.1, y.1))

-- a ready piece that is due before the most urgent one so far takes its place
pub urgent_new : (ps : List Piece) (gs : List ℕ) (tick i b : ℕ) → i < length ps
    → ((d : Piece) → is_ready (get_or ps i d) (get_or gs i 0) tick ≡ true)
    → IsMostUrgent ps gs tick i b → ((d : Piece) → IsDueFirst tick (get_or ps i d) (get_or ps b d))
    → IsMostUrgent ps gs tick (i + 1) i
urgent_new ps gs tick i b i-in ready urgent before = record {
  in_range = i-in;
  ready = ready;
  first = λ k d lt k-ready. elim (cases_eq k i) [
    | inl same ↦ subst (λ m. IsDueFirst tick (get_or ps i d) (get_or ps m d)) (sym same)
        (inr (refl, omega arith))
    | inr ne ↦ due_trans tick (get_or ps i d) (get_or ps b d) (get_or ps k d) (before d)
        (urgent.first k d (omega arith) k-ready)
  ];
}

-- the window that a ready piece is at is a pending job
ready_pending : (ps : List Piece) (gs : List ℕ) (tick i : ℕ) (d : Piece) → AreJobsCounted ps gs tick
    → i < length ps →
    is_ready (get_or ps i d) (get_or gs i 0) tick ≡ true →
    is_pending (edf_cells (jobs_of ps) tick) tick
    (job_of (subtask_of (get_or ps i d)) (window_no (get_or ps i d) tick)) ≡ true
ready_pending ps gs tick i d counted lt ready =
    let p = get_or ps i d in
    let w = window_no p tick in
    let parts = ready_parts p (get_or gs i 0) tick ready in
    let started = begun p tick parts.0 in
    let has = counted.each i d lt w in
    let lacks : had (jobs_of ps) (job_of (subtask_of p) w) tick < p.cost = omega (arith, parts.1, p.costs) in
    and_from (leb (w * p.period + p.from) tick)
    (ltb (had (jobs_of ps) (job_of (subtask_of p) w) tick) p.cost) (le-leb _ _ started)
    (lt-ltb _ _ lacks)

-- a pending job is the window that a ready piece is at: earlier ones are over and were met
pending_ready : (ps : List Piece) (gs : List ℕ) (tick i : ℕ) (d : Piece) (k : ℕ)
    → AreJobsCounted ps gs tick → MetBefore (jobs_of ps) (tick + 1) →
    i < length ps → k < ROUND / (get_or ps i d).period
    → is_pending (edf_cells (jobs_of ps) tick) tick (job_of (subtask_of (get_or ps i d)) k)
    ≡ true →
    (k ≡ window_no (get_or ps i d) tick) × (is_ready (get_or ps i d) (get_or gs i 0) tick ≡ true)
pending_ready ps gs tick i d k counted met lt lt' pending =
    let p = get_or ps i d in
    let w = window_no p tick in
    let g = get_or gs i 0 in
    let job = job_of (subtask_of p) k in
    let parts = and_parts (leb (k * p.period + p.from) tick)
    (ltb (had (jobs_of ps) job tick) p.cost) pending in
    let started : k * p.period + p.from ≤ tick = leb-true _ _ parts.0 in
    let lacks : had (jobs_of ps) job tick < p.cost = ltb-true _ _ parts.1 in
    let from : p.from ≤ tick = omega arith in
    let le : k ≤ w = not_later p tick k started in
    let is_last : k ≡ w = elim (cases_lt k w) [
      | inl before ↦ (let over = earlier_is_over p tick k from before in
          let in_time = met job (job_among ps d i k lt lt') (omega arith) in
          let kept = had_le_had (jobs_of ps) job (k * p.period + p.to) tick over in
          absurd (omega arith))
      | inr same ↦ omega arith
    ] in
    let has = counted.each i d lt k in
    let short : g < (k + 1) * p.cost = omega arith in
    let short' : g < (w + 1) * p.cost = subst (λ n. g < (n + 1) * p.cost) is_last short in
    (is_last, and_from (leb p.from tick) (ltb g ((w + 1) * p.cost)) (le-leb _ _ from) (lt-ltb _ _ short'))

-- what is first is first alone
first_alone : (cells : List (Option Job)) (tick : ℕ) (js : List Job) (c : Option Job) (j : Job)
    → Distinct js → IsFirst cells tick js c → Among js j →
    is_pending cells tick j ≡ true
    → ((k : Job) → Among js k → is_pending cells tick k ≡ true → NotAfter j k) → c ≡ Some j
first_alone cells tick js None j d first a pending least = absurd (false≢true (sym (first j a) ∙ pending))
first_alone cells tick js (Some i) j d first a pending least =
    let here = first.2 j a pending in
    let there = least i first.0 first.1 in
    let same = same_keys i j here there in
    ap Some (distinct_same js i j d first.0 a same.0 same.1)
  where
    same_keys : (x y : Job) → NotAfter x y → NotAfter y x → (x.vcpu ≡ y.vcpu) × (x.deadline ≡ y.deadline)
    same_keys x y (inl p) (inl q) = absurd (omega arith)
    same_keys x y (inl p) (inr q) = absurd (omega arith)
    same_keys x y (inr p) (inl q) = absurd (omega arith)
    same_keys x y (inr p) (inr q) = (omega arith, omega arith)

-- the most urgent piece's job gets the tick
pub urgent_cell : (ps : List Piece) (gs : List ℕ) (tick i : ℕ) (d : Piece) → DistinctVcpus ps
    → AreJobsCounted ps gs tick → MetBefore (jobs_of ps) (tick + 1) → tick < ROUND →
    IsMostUrgent ps gs tick (length ps) i
    → cell (jobs_of ps) tick
    ≡ Some (job_of (subtask_of (get_or ps i d)) (window_no (get_or ps i d) tick))
urgent_cell ps gs tick i d apart counted met lt urgent =
    let p = get_or ps i d in
    let w = window_no p tick in
    let ready = urgent.ready d in
    let from = (ready_parts p (get_or gs i 0) tick ready).0 in
    first_alone (edf_cells (jobs_of ps) tick) tick (jobs_of ps) (cell (jobs_of ps) tick)
    (job_of (subtask_of p) w) (jobs_of_distinct ps apart)
    (first_pending_is (edf_cells (jobs_of ps) tick) tick (jobs_of ps))
    (job_among ps d i w urgent.in_range (in_round p tick from lt))
    (ready_pending ps gs tick i d counted urgent.in_range ready)
    (λ k a pending.
    (let place = job_place ps d k a in
    let there = pending_ready ps gs tick place.0 d place.2 counted met place.1 place.3
    (subst (λ (x : Job). is_pending (edf_cells (jobs_of ps) tick) tick x ≡ true)
    (sym place.4) pending) in
    let job_is : job_of (subtask_of (get_or ps place.0 d)) (window_no (get_or ps place.0 d) tick)
    ≡ k = ap (job_of (subtask_of (get_or ps place.0 d))) (sym there.0) ∙ place.4 in
    subst (λ (x : Job). NotAfter (job_of (subtask_of p) w) x) job_is
    (urgent.first place.0 d place.1 there.1)))

-- nobody is first where nobody is pending
idle_first : (cells : List (Option Job)) (tick : ℕ) (js : List Job) (c : Option Job)
    → IsFirst cells tick js c → ((k : Job) → Among js k → is_pending cells tick k ≡ true → ⊥)
    → c ≡ None
idle_first cells tick js None first unready = refl
idle_first cells tick js (Some i) first unready = absurd (unready i first.0 first.1)

-- where no piece is ready the tick is idle
pub idle_cell : (ps : List Piece) (gs : List ℕ) (tick : ℕ) (d : Piece) → AreJobsCounted ps gs tick
    → MetBefore (jobs_of ps) (tick + 1) → tick < ROUND →
    ((i : ℕ) → i < length ps → is_ready (get_or ps i d) (get_or gs i 0) tick ≡ false)
    → cell (jobs_of ps) tick ≡ None
idle_cell ps gs tick d counted met lt unready =
    idle_first (edf_cells (jobs_of ps) tick) tick (jobs_of ps) (cell (jobs_of ps) tick)
    (first_pending_is (edf_cells (jobs_of ps) tick) tick (jobs_of ps))
    (λ k a pending.
    (let place = job_place ps d k a in
    let there = pending_ready ps gs tick place.0 d place.2 counted met place.1 place.3
    (subst (λ (x : Job). is_pending (edf_cells (jobs_of ps) tick) tick x ≡ true)
    (sym place.4) pending) in
    false≢true (sym (unready place.0 place.1) ∙ there.1)))

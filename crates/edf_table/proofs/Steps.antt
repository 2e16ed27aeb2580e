-- What the counts of ticks say after one tick more.
use Rattle.std.proofs.Common.{◌≡◌, ◌≢◌, ℕ, zero, suc, ◌+◌, ◌-◌, ◌*◌, ◌/◌, ◌<◌, ◌≤◌, min, Bool, true, false, cond, eqb, List, [], ◌∷◌, length, get_or, set, replicate, Option, Some, None, refl, ap, subst, sym, ◌∙◌, inl, inr, arith, add-one, length-set, get_or-set_same, get_or-set_other}
use Rattle.std.proofs.Math.Nat.{mul-le-mul_left}
use Rattle.std.proofs.lemmas.List.{length-replicate, get_or-replicate, get_or_past}
use Rattle.std.proofs.Common.{map}
use Rattle.edf_table.proofs.Cells.{edf_cells-zero}
use Rattle.std.proofs.lemmas.Bool.{cases_eq, cases_lt, and_from, eq-eqb, ne_eqb, and_left, and_right}
use Rattle.std.proofs.lemmas.Option.{slice_get-get_or}
use Rattle.tab_core.specs.declared.TheConstants.{ROUND}
use Rattle.tab_core.specs.declared.piece.Piece.{Piece}
use Rattle.table_form.specs.Planning.Jobs.{Job, job_of, subtask_of, jobs_of}
use Rattle.table_form.specs.Planning.EdfRow.{is_run_of, is_same_job, edf_cells, owner_of}
use Rattle.edf_table.specs.Inside.Progress.{AreJobsCounted, MetBefore, IsMostUrgent, ServedBelow, cell, had, window_no, is_ready}
use Rattle.table_form.specs.Planning.Windows.{DistinctVcpus}
use Rattle.edf_table.proofs.Counts.{had-suc, had-zero, had_le_had}
use Rattle.edf_table.proofs.Pieces.{job_among, job_place, same_multiple, no_jobs, none_of_none}
use Rattle.edf_table.proofs.Turns.{urgent_cell, idle_cell, some_period, ready_parts, earlier_is_over, in_round}

-- what a job has had after a tick, by whom the tick goes to
had_more : (js : List Job) (j : Job) (tick : ℕ) (c : Option Job) (b : Bool) → cell js tick ≡ c
    → is_run_of j c ≡ b → had js j (tick + 1) ≡ had js j tick + cond b 1 0
had_more js j tick c b at run =
    rw (add-one tick) (had-suc js j tick ∙ ap (λ r. had js j tick + cond r 1 0)
    (ap (is_run_of j) at ∙ run))

-- as much as before, where it goes to another
had_same : (js : List Job) (j : Job) (tick : ℕ) (c : Option Job) → cell js tick ≡ c
    → is_run_of j c ≡ false → had js j (tick + 1) ≡ had js j tick
had_same js j tick c at run = let more = had_more js j tick c false at run in omega arith

-- nothing was given yet
pub counted_start : (ps : List Piece) (n : ℕ) → length ps ≤ n → AreJobsCounted ps (replicate n 0) 0
counted_start ps n enough =
    let zeros : List ℕ = replicate n 0 in
    record {
      enough = omega (arith, length-replicate {A = ℕ} n 0);
      small = λ i. elim (cases_lt i n) [
        | inl lt ↦ rw (get_or-replicate {A = ℕ} n i 0 0 lt) (omega arith)
        | inr past ↦
            (let zero_past : get_or zeros i 0 ≡ 0 =
            get_or_past zeros i 0 (omega (arith, length-replicate {A = ℕ} n 0)) in
            omega arith)
      ];
      each = λ i d lt k. rw (
        had-zero (jobs_of ps) (job_of (subtask_of (get_or ps i d)) k),
        get_or-replicate {A = ℕ} n i 0 0 (omega arith),
      ) (omega arith);
    }

-- a tick that goes to nobody
pub counted_idle : (ps : List Piece) (gs : List ℕ) (tick : ℕ) → AreJobsCounted ps gs tick
    → cell (jobs_of ps) tick ≡ None → AreJobsCounted ps gs (tick + 1)
counted_idle ps gs tick counted idle = record {
  enough = counted.enough;
  small = λ i. omega (arith, counted.small i);
  each = λ i d lt k. had_same (jobs_of ps)
      (job_of (subtask_of (get_or ps i d)) k) tick None idle refl ∙ counted.each i d lt k;
}

-- pieces at two places are of two vCPUs
pub distinct_at : (ps : List Piece) (i k : ℕ) (d : Piece) → DistinctVcpus ps → i < length ps
    → k < length ps → i ≢ k → (get_or ps i d).vcpu ≢ (get_or ps k d).vcpu
distinct_at ps i k d apart i-in k-in ne e =
    ne (apart i k (get_or ps i d) (get_or ps k d) (slice_get-get_or ps i d i-in)
    (slice_get-get_or ps k d k-in) e)

-- a tick of another vCPU is not the job's
not_run_by_vcpu : (i j : Job) → i.vcpu ≢ j.vcpu → is_same_job i j ≡ false
not_run_by_vcpu i j ne = and_left (eqb i.vcpu j.vcpu) (eqb i.deadline j.deadline) (ne_eqb i.vcpu j.vcpu ne)

-- a tick of another window is not the job's
not_run_by_deadline : (i j : Job) → i.deadline ≢ j.deadline → is_same_job i j ≡ false
not_run_by_deadline i j ne = and_right (eqb i.vcpu j.vcpu) (eqb i.deadline j.deadline)
    (ne_eqb i.deadline j.deadline ne)

-- served in order: what one more tick of the piece gives its window number k
min_same : (cost g k w : ℕ) → k ≢ w → w * cost ≤ g → g < (w + 1) * cost
    → min cost (g + 1 - k * cost) ≡ min cost (g - k * cost)
min_same cost g k w ne low high = elim (cases_lt k w) [
  | inl before ↦ (let more = mul-le-mul_left {m = k + 1} {n = w} cost (omega arith) in omega arith)
  | inr after ↦ (let more = mul-le-mul_left {m = w + 1} {n = k} cost (omega arith) in omega arith)
]

-- the windows before this one are fully served
served_before : (ps : List Piece) (gs : List ℕ) (tick i : ℕ) (d : Piece) → AreJobsCounted ps gs tick
    → MetBefore (jobs_of ps) (tick + 1) → tick < ROUND → i < length ps →
    (w : ℕ) → w < ROUND / (get_or ps i d).period → (get_or ps i d).from ≤ tick
    → w ≤ window_no (get_or ps i d) tick → w * (get_or ps i d).cost ≤ get_or gs i 0
served_before ps gs tick i d counted met lt i-in zero w-in from le = omega arith
served_before ps gs tick i d counted met lt i-in (suc k) w-in from le =
    let p = get_or ps i d in
    let job = job_of (subtask_of p) k in
    let over = earlier_is_over p tick k from (omega arith) in
    let in_time = met job (job_among ps d i k i-in (omega arith)) (omega arith) in
    let kept = had_le_had (jobs_of ps) job (k * p.period + p.to) tick over in
    let has = counted.each i d i-in k in
    omega (arith, p.costs)

-- a tick of the job itself is
same_job_self : (j : Job) → is_same_job j j ≡ true
same_job_self j = and_from (eqb j.vcpu j.vcpu) (eqb j.deadline j.deadline) (eqb_refl j.vcpu)
    (eqb_refl j.deadline)
  where
    eqb_refl : (n : ℕ) → eqb n n ≡ true
    eqb_refl n = eq-eqb n n refl

-- piece i has one tick more
abbrev pub one_more : List ℕ → ℕ → List ℕ
one_more gs i = set gs i (get_or gs i 0 + 1)

-- what the counts say of the piece that has the tick
each_of_run : (ps : List Piece) (gs : List ℕ) (tick i : ℕ) (d : Piece) → DistinctVcpus ps
    → AreJobsCounted ps gs tick → MetBefore (jobs_of ps) (tick + 1) → tick < ROUND →
    IsMostUrgent ps gs tick (length ps) i → (k : ℕ) →
    had (jobs_of ps) (job_of (subtask_of (get_or ps i d)) k) (tick + 1)
    ≡ min (get_or ps i d).cost (get_or gs i 0 + 1 - k * (get_or ps i d).cost)
each_of_run ps gs tick i d apart counted met lt urgent k =
    let p = get_or ps i d in
    let w = window_no p tick in
    let g = get_or gs i 0 in
    let parts = ready_parts p g tick (urgent.ready d) in
    let low : w * p.cost ≤ g = served_before ps gs tick i d counted met lt urgent.in_range w
    (in_round p tick parts.0 lt) parts.0 (omega arith) in
    let at = urgent_cell ps gs tick i d apart counted met lt urgent in
    let has = counted.each i d urgent.in_range k in
    elim (cases_eq k w) [
      | inl same ↦ (let run : is_run_of (job_of (subtask_of p) k) (Some (job_of (subtask_of p) w)) ≡ true =
          subst (λ n. is_same_job (job_of (subtask_of p) w) (job_of (subtask_of p) n) ≡ true)
          (sym same) (same_job_self (job_of (subtask_of p) w)) in
          let more = had_more (jobs_of ps) (job_of (subtask_of p) k) tick
          (Some (job_of (subtask_of p) w)) true at run in
          let low' : k * p.cost ≤ g = subst (λ n. n * p.cost ≤ g) (sym same) low in
          let high' : g < (k + 1) * p.cost = subst (λ n. g < (n + 1) * p.cost) (sym same) parts.1 in
          omega arith)
      | inr ne ↦ (let run : is_run_of (job_of (subtask_of p) k) (Some (job_of (subtask_of p) w)) ≡ false =
          not_run_by_deadline (job_of (subtask_of p) w) (job_of (subtask_of p) k)
          (λ e. ne (same_multiple p.period k w p.to (some_period p) (sym e))) in
          had_same (jobs_of ps) (job_of (subtask_of p) k) tick
          (Some (job_of (subtask_of p) w)) at run ∙ has
          ∙ sym (min_same p.cost g k w ne low parts.1))
    ]

-- a tick that goes to the most urgent piece
pub counted_run : (ps : List Piece) (gs : List ℕ) (tick i : ℕ) → DistinctVcpus ps
    → AreJobsCounted ps gs tick → MetBefore (jobs_of ps) (tick + 1) → tick < ROUND →
    IsMostUrgent ps gs tick (length ps) i → AreJobsCounted ps (one_more gs i) (tick + 1)
counted_run ps gs tick i apart counted met lt urgent = record {
  enough = omega (arith, length-set gs i (get_or gs i 0 + 1), counted.enough);
  small = λ k. elim (cases_eq k i) [
    | inl same ↦ subst (λ n. get_or (one_more gs i) n 0 ≤ tick + 1) (sym same)
        (rw (get_or-set_same gs i (get_or gs i 0 + 1) 0
        (omega (arith, counted.enough, urgent.in_range))) (omega (arith, counted.small i)))
    | inr ne ↦ rw (get_or-set_other gs i k (get_or gs i 0 + 1) 0 ne) (omega (arith, counted.small k))
  ];
  each = λ k d k-in n. elim (cases_eq k i) [
    | inl same ↦
        (let P : ℕ → Type 0 = λ m. had (jobs_of ps) (job_of (subtask_of (get_or ps m d)) n) (tick + 1)
        ≡ min (get_or ps m d).cost (get_or (one_more gs i) m 0 - n * (get_or ps m d).cost) in
        subst P (sym same)
        (rw (get_or-set_same gs i (get_or gs i 0 + 1) 0 (omega (arith, counted.enough, urgent.in_range)))
        (each_of_run ps gs tick i d apart counted met lt urgent n)))
    | inr ne ↦
        rw (get_or-set_other gs i k (get_or gs i 0 + 1) 0 ne)
        (had_same (jobs_of ps) (job_of (subtask_of (get_or ps k d)) n) tick
        (Some (job_of (subtask_of (get_or ps i d)) (window_no (get_or ps i d) tick)))
        (urgent_cell ps gs tick i d apart counted met lt urgent)
        (not_run_by_vcpu (job_of (subtask_of (get_or ps i d)) (window_no (get_or ps i d) tick))
        (job_of (subtask_of (get_or ps k d)) n)
        (distinct_at ps i k d apart urgent.in_range k-in (λ e. ne (sym e))))
        ∙ counted.each k d k-in n)
  ];
}

-- where each window that ends at the tick has its cost, all is met one tick further
pub met_more : (ps : List Piece) (gs : List ℕ) (tick : ℕ) (d : Piece) → AreJobsCounted ps gs tick
    → MetBefore (jobs_of ps) tick → ServedBelow ps gs tick (length ps)
    → MetBefore (jobs_of ps) (tick + 1)
met_more ps gs tick d counted met served j a lt = elim (cases_lt j.deadline tick) [
  | inl before ↦ met j a before
  | inr now ↦ (let place = job_place ps d j a in
      let p = get_or ps place.0 d in
      let k = place.2 in
      let due : k * p.period + p.to ≡ tick = ap (λ (x : Job). x.deadline) place.4 ∙ omega arith in
      let enough = served place.0 d place.1 k due in
      let has = counted.each place.0 d place.1 k in
      let here : p.cost ≤ had (jobs_of ps) (job_of (subtask_of p) k) tick = omega arith in
      let at : p.cost ≤ had (jobs_of ps) (job_of (subtask_of p) k) (k * p.period + p.to) =
      subst (λ n. p.cost ≤ had (jobs_of ps) (job_of (subtask_of p) k) n) (sym due) here in
      subst (λ (x : Job). x.cost ≤ had (jobs_of ps) x x.deadline) place.4 at)
]

-- where each window that ends at the tick has its cost, all is met one tick further, with or
-- without a piece
pub met_more_any : (ps : List Piece) (gs : List ℕ) (tick : ℕ) → AreJobsCounted ps gs tick
    → MetBefore (jobs_of ps) tick → ServedBelow ps gs tick (length ps)
    → MetBefore (jobs_of ps) (tick + 1)
met_more_any [] gs tick counted met served = λ j a lt. absurd (no_jobs j a)
met_more_any (p ∷ ps) gs tick counted met served = met_more (p ∷ ps) gs tick p counted met served

-- an idle tick gives nothing, with or without a piece
pub idle_cell_any : (ps : List Piece) (gs : List ℕ) (tick : ℕ) → AreJobsCounted ps gs tick
    → MetBefore (jobs_of ps) (tick + 1) → tick < ROUND →
    ((i : ℕ) (d : Piece) → i < length ps → is_ready (get_or ps i d) (get_or gs i 0) tick ≡ false)
    → cell (jobs_of ps) tick ≡ None
idle_cell_any [] gs tick counted met lt unready = none_of_none (edf_cells (jobs_of []) tick) tick
idle_cell_any (p ∷ ps) gs tick counted met lt unready =
    idle_cell (p ∷ ps) gs tick p counted met lt (λ i i-in. unready i p i-in)

-- the builder's row begins empty, as the definition's
pub row_start : (js : List Job) (row : List (Option ℕ)) → row ≡ [] → row ≡ map owner_of (edf_cells js 0)
row_start js row e = rw (edf_cells-zero js) e

-- Each window of a piece has exactly its cost of cells.
use Rattle.std.proofs.Common.{◌≡◌, ◌≢◌, ℕ, zero, suc, ◌+◌, ◌-◌, ◌*◌, ◌/◌, ◌<◌, ◌≤◌, min, false, cond, eqb, List, [], ◌∷◌, ◌++◌, length, get_or, slice_get, take, drop, map, Option, Some, None, refl, ap, subst, sym, ◌∙◌, inl, inr, arith, add-zero, add-suc, take-add}
use Rattle.std.specs.List.{sum_by, count_by}
use Rattle.std.proofs.Math.Seq.{take-length}
use Rattle.std.proofs.Math.Nat.{mul-le-mul_left}
use Rattle.std.proofs.lemmas.List.{take-append-le, take-map}
use Rattle.std.proofs.lemmas.List.Sums.{sum_by-cons, sum_by-append, sum_by_push}
use Rattle.std.proofs.lemmas.Bool.{cases_Bool, cases_eq, cases_lt, false≢true, and_left, ne_eqb, eqb-true, eq-eqb}
use Rattle.tab_core.specs.declared.TheConstants.{ROUND}
use Rattle.tab_core.specs.declared.piece.Piece.{Piece}
use Rattle.tab_core.proofs.Periods.{period_facts}
use Rattle.table_form.specs.Planning.Jobs.{Job, Subtask, job_of, subtask_of, first_jobs, jobs_of}
use Rattle.table_form.specs.Planning.EdfRow.{is_run_of, is_same_job, edf_cells, edf_row, owner_of}
use Rattle.table_form.specs.Tables.Serves.{is_cell_of, cells_within}
use Rattle.edf_table.specs.Inside.Progress.{Among, MetBefore, cell, had}
use Rattle.table_form.specs.Planning.Windows.{DistinctVcpus}
use Rattle.edf_table.proofs.Sums.{sum_lt, sum_zero}
use Rattle.edf_table.proofs.Cells.{edf_cells-suc, edf_cells-zero, length-edf_cells}
use Rattle.edf_table.proofs.First.{IsFirst, first_pending_is}
use Rattle.edf_table.proofs.Counts.{had-suc, had-zero, had-le-cost, had_le_had, nothing_early}
use Rattle.edf_table.proofs.Criterion.{one_cell, self_run}
use Rattle.std.proofs.lemmas.Option.{get_or_from_slice_get, slice_get_within}
use Rattle.edf_table.proofs.Pieces.{job_among, job_place, jobs_of_distinct, first_jobs-suc, first_jobs-zero, first_job_among, first_job_place, first_jobs_distinct}
use Rattle.edf_table.proofs.Turns.{some_period}
use Rattle.edf_table.proofs.Steps.{distinct_at}

-- how many of the cells are the vCPU's
owned : ℕ → List (Option Job) → ℕ
owned v cells = count_by (λ c. is_cell_of v (owner_of c)) cells

-- one cell more counts where it is the vCPU's
owned-push : (v : ℕ) (cells : List (Option Job)) (c : Option Job)
    → owned v (cells ++ c ∷ []) ≡ owned v cells + cond (is_cell_of v (owner_of c)) 1 0
unfolding owned
owned-push v cells c = sum_by_push (λ x. cond (is_cell_of v (owner_of x)) 1 0) cells c

-- no cells have none that is the vCPU's
owned-none : (v : ℕ) → owned v [] ≡ 0
unfolding owned
owned-none v = refl

-- a sum of sums, term by term
sum_sum : (f g h : Job → ℕ) (js : List Job) → ((j : Job) → f j ≡ g j + h j)
    → sum_by f js ≡ sum_by g js + sum_by h js
sum_sum f g h [] e = refl
sum_sum f g h (j ∷ js) e =
    let rest = sum_sum f g h js e in
    omega (arith, sum_by-cons f j js, sum_by-cons g j js, sum_by-cons h j js, e j)

-- what the first m jobs of a subtask have had
all_had : List Job → Subtask → ℕ → ℕ → ℕ
all_had js s m n = sum_by (λ j. had js j n) (first_jobs s m)

-- each job of a subtask is of its vCPU
vcpu_of_subtask : (s : Subtask) (m : ℕ) (j : Job) → Among (first_jobs s m) j → j.vcpu ≡ s.vcpu
vcpu_of_subtask s m j a = let place = first_job_place s m j a in sym (ap (λ (x : Job). x.vcpu) place.2)

-- a cell is one of the subtask's jobs exactly where it is its vCPU's
runs_none : (c : Option Job) (s : Subtask) (m : ℕ) → is_cell_of s.vcpu (owner_of c) ≡ false
    → sum_by (λ j. cond (is_run_of j c) 1 0) (first_jobs s m) ≡ 0
runs_none None s m h = sum_zero (λ j. 0) (first_jobs s m) (λ j a. refl)
runs_none (Some i) s m h = sum_zero (λ j. cond (is_same_job i j) 1 0) (first_jobs s m) (λ j a.
    (let other : i.vcpu ≢ j.vcpu =
    λ e. false≢true (sym h ∙ eq-eqb s.vcpu i.vcpu (sym (vcpu_of_subtask s m j a) ∙ sym e)) in
    ap (λ b. cond b 1 0) (and_left (eqb i.vcpu j.vcpu) (eqb i.deadline j.deadline)
    (ne_eqb i.vcpu j.vcpu other))))

-- a cell of one of the subtask's jobs counts once over all of them
runs_one : (i : Job) (s : Subtask) (m : ℕ) → 0 < s.period → Among (first_jobs s m) i
    → sum_by (λ j. cond (is_same_job i j) 1 0) (first_jobs s m) ≡ 1
runs_one i s m some a =
    let most = one_cell (Some i) (first_jobs s m) (first_jobs_distinct s m some) in
    let none : sum_by (λ (j : Job). 0) (first_jobs s m) ≡ 0 =
    sum_zero (λ j. 0) (first_jobs s m) (λ j b. refl) in
    let least = sum_lt (λ j. 0) (λ j. cond (is_same_job i j) 1 0) (first_jobs s m)
    (λ j b. omega arith) i a (rw (self_run i) (omega arith)) in
    omega arith

-- a job of a round that is of piece i's vCPU is one of piece i's
of_piece : (ps : List Piece) (i : ℕ) (d : Piece) (j : Job) → DistinctVcpus ps → i < length ps
    → Among (jobs_of ps) j → j.vcpu ≡ (get_or ps i d).vcpu →
    Among (first_jobs (subtask_of (get_or ps i d)) (ROUND / (get_or ps i d).period)) j
of_piece ps i d j apart lt a v =
    let place = job_place ps d j a in
    elim (cases_eq place.0 i) [
      | inl same ↦
          (let there : Among (first_jobs (subtask_of (get_or ps place.0 d))
          (ROUND / (get_or ps place.0 d).period)) j =
          subst (λ (x : Job). Among (first_jobs (subtask_of (get_or ps place.0 d))
          (ROUND / (get_or ps place.0 d).period)) x) place.4
          (first_job_among (subtask_of (get_or ps place.0 d))
          (ROUND / (get_or ps place.0 d).period) place.2 place.3) in
          subst (λ n. Among (first_jobs (subtask_of (get_or ps n d))
          (ROUND / (get_or ps n d).period)) j) same there)
      | inr ne ↦
          absurd (distinct_at ps place.0 i d apart place.1 lt ne
          (ap (λ (x : Job). x.vcpu) place.4 ∙ v))
    ]

-- whether a cell is the vCPU's is counted over the jobs of its piece
runs_is : (ps : List Piece) (i n : ℕ) (d : Piece) (c : Option Job) → DistinctVcpus ps
    → i < length ps → IsFirst (edf_cells (jobs_of ps) n) n (jobs_of ps) c →
    sum_by (λ j. cond (is_run_of j c) 1 0)
    (first_jobs (subtask_of (get_or ps i d)) (ROUND / (get_or ps i d).period))
    ≡ cond (is_cell_of (get_or ps i d).vcpu (owner_of c)) 1 0
runs_is ps i n d None apart lt first =
    runs_none None (subtask_of (get_or ps i d)) (ROUND / (get_or ps i d).period) refl
runs_is ps i n d (Some j) apart lt first =
    let p = get_or ps i d in
    elim (cases_Bool (eqb p.vcpu j.vcpu)) [
      | inl same ↦
          rw same (runs_one j (subtask_of p) (ROUND / p.period) (some_period p)
          (of_piece ps i d j apart lt first.0 (sym (eqb-true p.vcpu j.vcpu same))))
      | inr other ↦ rw other (runs_none (Some j) (subtask_of p) (ROUND / p.period) other)
    ]

-- a vCPU's cells are those of its jobs
owned_is : (ps : List Piece) (i n : ℕ) (d : Piece) → DistinctVcpus ps → i < length ps →
    owned (get_or ps i d).vcpu (edf_cells (jobs_of ps) n)
    ≡ all_had (jobs_of ps) (subtask_of (get_or ps i d)) (ROUND / (get_or ps i d).period) n
unfolding all_had
owned_is ps i zero d apart lt =
    let p = get_or ps i d in
    ap (owned p.vcpu) (edf_cells-zero (jobs_of ps)) ∙ owned-none p.vcpu
    ∙ sym (sum_zero (λ j. had (jobs_of ps) j 0) (first_jobs (subtask_of p) (ROUND / p.period))
    (λ j a. had-zero (jobs_of ps) j))
owned_is ps i (suc n) d apart lt =
    let p = get_or ps i d in
    let before = owned_is ps i n d apart lt in
    let more = ap (owned p.vcpu) (edf_cells-suc (jobs_of ps) n)
    ∙ owned-push p.vcpu (edf_cells (jobs_of ps) n) (cell (jobs_of ps) n) in
    let parts = sum_sum (λ j. had (jobs_of ps) j (suc n)) (λ j. had (jobs_of ps) j n)
    (λ j. cond (is_run_of j (cell (jobs_of ps) n)) 1 0)
    (first_jobs (subtask_of p) (ROUND / p.period))
    (λ j. had-suc (jobs_of ps) j n) in
    let here = runs_is ps i n d (cell (jobs_of ps) n) apart lt
    (first_pending_is (edf_cells (jobs_of ps) n) n (jobs_of ps)) in
    omega arith

-- by a tick, the jobs that were due have had all, and those that have not begun have had nothing
served_by : (ps : List Piece) (i t w : ℕ) (d : Piece) → DistinctVcpus ps → i < length ps
    → MetBefore (jobs_of ps) (ROUND + 1) →
    ((k : ℕ) → k < w → k * (get_or ps i d).period + (get_or ps i d).to ≤ t)
    → ((k : ℕ) → w ≤ k → t ≤ k * (get_or ps i d).period + (get_or ps i d).from) →
    (m : ℕ) → m ≤ ROUND / (get_or ps i d).period
    → all_had (jobs_of ps) (subtask_of (get_or ps i d)) m t ≡ min m w * (get_or ps i d).cost
unfolding all_had
served_by ps i t w d apart lt met past ahead zero le =
    ap (λ js. sum_by (λ j. had (jobs_of ps) j t) js) (first_jobs-zero (subtask_of (get_or ps i d)))
    ∙ none_of_none (get_or ps i d).cost w
  where
    none_of_none : (c n : ℕ) → 0 ≡ min 0 n * c
    none_of_none c n = let e : min 0 n ≡ 0 = omega arith in subst (λ m. 0 ≡ m * c) (sym e) (omega arith)
served_by ps i t w d apart lt met past ahead (suc m) le =
    let p = get_or ps i d in
    let js = jobs_of ps in
    let job = job_of (subtask_of p) m in
    let before = served_by ps i t w d apart lt met past ahead m (omega arith) in
    let a = job_among ps d i m lt (omega arith) in
    let facts = period_facts p.period p.listed in
    let split : sum_by (λ j. had js j t) (first_jobs (subtask_of p) (suc m))
    ≡ sum_by (λ j. had js j t) (first_jobs (subtask_of p) m) + had js job t =
    ap (λ xs. sum_by (λ j. had js j t) xs) (first_jobs-suc (subtask_of p) m)
    ∙ sum_by_push (λ j. had js j t) (first_jobs (subtask_of p) m) job in
    elim (cases_lt m w) [
      | inl due ↦ (let whole = mul-le-mul_left {m = m + 1} {n = ROUND / p.period} p.period (omega arith) in
          let in_round : m * p.period + p.to ≤ ROUND = omega (arith, facts.whole, p.within) in
          let in_time = met job a (omega arith) in
          let kept = had_le_had js job (m * p.period + p.to) t (past m due) in
          let most = had-le-cost js job t (jobs_of_distinct ps apart) a in
          let full : had js job t ≡ p.cost = omega arith in
          let e : min (suc m) w ≡ m + 1 = omega arith in
          let e' : min m w ≡ m = omega arith in
          let before' : sum_by (λ j. had js j t) (first_jobs (subtask_of p) m) ≡ m * p.cost =
          subst (λ n. sum_by (λ j. had js j t) (first_jobs (subtask_of p) m) ≡ n * p.cost)
          e' before in
          subst (λ n. sum_by (λ j. had js j t) (first_jobs (subtask_of p) (suc m)) ≡ n * p.cost)
          (sym e) (omega arith))
      | inr early ↦ (let none = nothing_early js job t (jobs_of_distinct ps apart) a (ahead m early) in
          let e : min (suc m) w ≡ min m w = omega arith in
          subst (λ n. sum_by (λ j. had js j t) (first_jobs (subtask_of p) (suc m)) ≡ n * p.cost)
          (sym e) (omega arith))
    ]

-- the first n cells of a longer row
prefix_is : (js : List Job) (n m : ℕ) → take n (edf_cells js (n + m)) ≡ edf_cells js n
prefix_is js n zero =
    rw (add-zero n) (ap (λ k. take k (edf_cells js n)) (sym (length-edf_cells js n))
    ∙ take-length (edf_cells js n))
prefix_is js n (suc m) =
    rw (add-suc n m) (rw (edf_cells-suc js (n + m))
    (take-append-le n (edf_cells js (n + m)) (cell js (n + m) ∷ [])
    (omega (arith, length-edf_cells js (n + m))) ∙ prefix_is js n m))

-- the first n cells of a longer row, by that row's end
prefix_of : (js : List Job) (n e : ℕ) → n ≤ e → take n (edf_cells js e) ≡ edf_cells js n
prefix_of js n e le = subst (λ k. take n (edf_cells js k) ≡ edf_cells js n) (omega arith)
    (prefix_is js n (e - n))

-- a row's cells are counted by their owners
count_map : (v : ℕ) (cells : List (Option Job))
    → count_by (λ c. is_cell_of v c) (map owner_of cells) ≡ owned v cells
unfolding owned
count_map v [] = refl
count_map v (c ∷ cs) =
    let rest = count_map v cs in
    omega (
      arith,
      sum_by-cons (λ x. cond (is_cell_of v x) 1 0) (owner_of c) (map owner_of cs),
      sum_by-cons (λ x. cond (is_cell_of v (owner_of x)) 1 0) c cs,
    )

-- the cells up to a tick, and those from there to another
count_between : (v : ℕ) (cells : List (Option ℕ)) (a b : ℕ) → a ≤ b →
    count_by (λ c. is_cell_of v c) (take b cells)
    ≡ count_by (λ c. is_cell_of v c) (take a cells)
    + count_by (λ c. is_cell_of v c) (take (b - a) (drop a cells))
count_between v cells a b le =
    ap (λ n. count_by (λ c. is_cell_of v c) (take n cells)) (omega arith)
    ∙ (ap (λ xs. count_by (λ c. is_cell_of v c) xs) (take-add a (b - a) cells)
    ∙ sum_by-append (λ c. cond (is_cell_of v c) 1 0) (take a cells) (take (b - a) (drop a cells)))

-- how many of a row's first n cells are the vCPU's
up_to : (js : List Job) (v n : ℕ) → n ≤ ROUND
    → count_by (λ c. is_cell_of v c) (take n (edf_row js)) ≡ owned v (edf_cells js n)
unfolding edf_row
up_to js v n le =
    ap (λ xs. count_by (λ c. is_cell_of v c) xs)
    (take-map owner_of n (edf_cells js ROUND) ∙ ap (map owner_of) (prefix_of js n ROUND le))
    ∙ count_map v (edf_cells js n)

-- each window of a piece has exactly the piece's cost of cells
window_has_cost : (ps : List Piece) (i k : ℕ) (d : Piece) → DistinctVcpus ps → i < length ps
    → MetBefore (jobs_of ps) (ROUND + 1) → k < ROUND / (get_or ps i d).period →
    cells_within (get_or ps i d).vcpu (edf_row (jobs_of ps))
    (k * (get_or ps i d).period + (get_or ps i d).from)
    (k * (get_or ps i d).period + (get_or ps i d).to) ≡ (get_or ps i d).cost
unfolding cells_within
window_has_cost ps i k d apart lt met k-lt =
    let p = get_or ps i d in
    let js = jobs_of ps in
    let a = k * p.period + p.from in
    let b = k * p.period + p.to in
    let m = ROUND / p.period in
    let facts = period_facts p.period p.listed in
    let whole = mul-le-mul_left {m = k + 1} {n = m} p.period (omega arith) in
    let in_round : b ≤ ROUND = omega (arith, facts.whole, p.within) in
    let some : a ≤ b = omega (arith, p.begins) in
    let at_begin : all_had js (subtask_of p) m a ≡ min m k * p.cost = served_by ps i a k d apart lt met
    (λ n n-lt. (let more = mul-le-mul_left {m = n + 1} {n = k} p.period (omega arith) in omega
    (arith, p.within)))
    (λ n n-ge. (let more = mul-le-mul_left {m = k} {n = n} p.period n-ge in omega arith)) m (omega arith) in
    let at_end : all_had js (subtask_of p) m b ≡ min m (k + 1) * p.cost =
    served_by ps i b (k + 1) d apart lt met
    (λ n n-lt. (let more = mul-le-mul_left {m = n} {n = k} p.period (omega arith) in omega arith))
    (λ n n-ge. (let more = mul-le-mul_left {m = k + 1} {n = n} p.period n-ge in omega
    (arith, p.within))) m (omega arith) in
    let e : min m k ≡ k = omega arith in
    let e' : min m (k + 1) ≡ k + 1 = omega arith in
    let begin' : all_had js (subtask_of p) m a ≡ k * p.cost =
    subst (λ n. all_had js (subtask_of p) m a ≡ n * p.cost) e at_begin in
    let end' : all_had js (subtask_of p) m b ≡ (k + 1) * p.cost =
    subst (λ n. all_had js (subtask_of p) m b ≡ n * p.cost) e' at_end in
    let counted_a = up_to js p.vcpu a (omega arith) ∙ owned_is ps i a d apart lt in
    let counted_b = up_to js p.vcpu b in_round ∙ owned_is ps i b d apart lt in
    let between = count_between p.vcpu (edf_row js) a b some in
    omega arith

-- read by the piece at a place: the clause `windows`
pub window_of_piece : (ps : List Piece) (i k : ℕ) (p : Piece) → DistinctVcpus ps
    → slice_get ps i ≡ Some p → MetBefore (jobs_of ps) (ROUND + 1) → k < ROUND / p.period →
    cells_within p.vcpu (edf_row (jobs_of ps)) (k * p.period + p.from) (k * p.period + p.to) ≡ p.cost
window_of_piece ps i k p apart at met k-lt =
    let Served : Piece → Type 0 = λ q. k < ROUND / q.period
    → cells_within q.vcpu (edf_row (jobs_of ps)) (k * q.period + q.from)
    (k * q.period + q.to) ≡ q.cost in
    subst Served (get_or_from_slice_get ps i p p at)
    (window_has_cost ps i k p apart (slice_get_within ps i p at) met) k-lt

-- The processor-demand criterion, both ways: where all deadlines are met no interval is overloaded,
-- and a missed deadline makes an overloaded interval.
use Rattle.std.proofs.Common.{◌≡◌, ℕ, zero, suc, ◌+◌, ◌-◌, ◌<◌, ◌≤◌, Bool, true, false, cond, eqb, ltb, leb, List, [], ◌∷◌, ◌++◌, Option, Some, None, refl, subst, sym, ◌∙◌, inl, inr, ◌⊎◌, arith, add-zero, add-suc}
use Rattle.std.specs.List.{sum_by}
use Rattle.std.proofs.lemmas.List.Sums.{sum_by-cons}
use Rattle.std.proofs.lemmas.Bool.{cases_Bool, cases_lt, false≢true, and_parts, and_from, leb-true, le-leb, lt-ltb, eqb-true, ltb-true}
use Rattle.std.proofs.lemmas.Bool.Decides.{nat_tests}
use Rattle.table_form.specs.Planning.Jobs.{Job}
use Rattle.table_form.specs.Planning.Demand.{is_inside, demand_in}
use Rattle.table_form.specs.Planning.EdfRow.{cells_of, is_run_of, is_same_job, is_pending, edf_cells}
use Rattle.edf_table.specs.Inside.Progress.{Among, cell, had}
use Rattle.edf_table.proofs.Sums.{sum_le, sum_lt, sum_zero, sum_le_add}
use Rattle.edf_table.proofs.Cells.{cells_of-push, edf_cells-suc}
use Rattle.edf_table.proofs.First.{IsFirst, first_pending_is}
use Rattle.edf_table.proofs.Counts.{Distinct, nothing_early, had-le-cost, had_le_had}

-- the cells that jobs inside the interval have had
abbrev pub given : ℕ → ℕ → List Job → List (Option Job) → ℕ
given start end js cells = sum_by (λ j. cond (is_inside start end j) (cells_of j cells) 0) js

-- a cell of one job is no later job's, since they differ
no_other_run : (i x : Job) (xs : List Job) → is_same_job i x ≡ true
    → ((k : Job) → Among xs k → k.vcpu ≡ x.vcpu → k.deadline ≡ x.deadline → ⊥) →
    (k : Job) → Among xs k → ◌≡◌ {A = ℕ} (cond (is_same_job i k) 1 0) 0
no_other_run i x xs same apart k a =
    let here = and_parts (eqb i.vcpu x.vcpu) (eqb i.deadline x.deadline) same in
    elim (cases_Bool (is_same_job i k)) [
      | inl r ↦ (let there = and_parts (eqb i.vcpu k.vcpu) (eqb i.deadline k.deadline) r in
          absurd (apart k a (sym (eqb-true _ _ there.0) ∙ eqb-true _ _ here.0)
          (sym (eqb-true _ _ there.1) ∙ eqb-true _ _ here.1)))
      | inr r ↦ rw r refl
    ]

-- a cell is at most one job's
pub one_cell : (c : Option Job) (js : List Job) → Distinct js → sum_by (λ j. cond (is_run_of j c) 1 0) js ≤ 1
one_cell None js d =
    let e : sum_by (λ (j : Job). 0) js ≡ 0 = sum_zero (λ j. 0) js (λ j a. refl) in omega arith
one_cell (Some i) [] d = omega arith
one_cell (Some i) (x ∷ xs) d =
    elim (cases_Bool (is_same_job i x)) [
      | inl r ↦ (let rest = sum_zero (λ j. cond (is_same_job i j) 1 0) xs (no_other_run i x xs r d.0) in
          rw (sum_by-cons (λ j. cond (is_same_job i j) 1 0) x xs) (rw r (omega arith)))
      | inr r ↦ (let rest = one_cell (Some i) xs d.1 in
          rw (sum_by-cons (λ j. cond (is_same_job i j) 1 0) x xs) (rw r (omega arith)))
    ]

-- one cell more adds at most one to each term of the sum
term_push : (b : Bool) (j : Job) (cells : List (Option Job)) (c : Option Job) →
    cond b (cells_of j (cells ++ c ∷ [])) 0 ≤ cond b (cells_of j cells) 0 + cond (is_run_of j c) 1 0
term_push true j cells c = rw (cells_of-push j cells c) (omega arith)
term_push false j cells c = omega arith

-- one more tick gives at most one
given_push : (s e : ℕ) (js : List Job) (cells : List (Option Job)) (c : Option Job) → Distinct js
    → given s e js (cells ++ c ∷ []) ≤ given s e js cells + 1
given_push s e js cells c d =
    let grown = sum_le_add (λ j. cond (is_inside s e j) (cells_of j (cells ++ c ∷ [])) 0)
    (λ j. cond (is_inside s e j) (cells_of j cells) 0) (λ j. cond (is_run_of j c) 1 0) js
    (λ j. term_push (is_inside s e j) j cells c) in
    omega (arith, grown, one_cell c js d)

-- what the jobs inside an interval were given by tick n
abbrev pub given_by : ℕ → ℕ → List Job → ℕ → ℕ
given_by s e js n = given s e js (edf_cells js n)

-- each tick gives the jobs of an interval at most one cell
given_by-suc : (s e : ℕ) (js : List Job) (n : ℕ) → Distinct js
    → given_by s e js (suc n) ≤ given_by s e js n + 1
given_by-suc s e js n d = rw (edf_cells-suc js n) (given_push s e js (edf_cells js n) (cell js n) d)

-- a job inside the interval has had nothing where the interval begins
term_early : (b : Bool) (s e : ℕ) (js : List Job) (j : Job) → is_inside s e j ≡ b → Distinct js
    → Among js j → cond b (had js j s) 0 ≡ 0
term_early true s e js j inside d a =
    nothing_early js j s d a
    (leb-true _ _ ((and_parts (leb s j.release) (leb j.deadline e) inside).0))
term_early false s e js j inside d a = refl

-- all jobs inside the interval together have had nothing where it begins
given_before : (s e : ℕ) (js : List Job) → Distinct js → given_by s e js s ≡ 0
given_before s e js d = sum_zero (λ j. cond (is_inside s e j) (had js j s) 0) js
    (λ j a. term_early (is_inside s e j) s e js j refl d a)

-- an interval gives its jobs no more cells than it has ticks
given_within : (s e : ℕ) (js : List Job) (m : ℕ) → Distinct js → given_by s e js (s + m) ≤ m
given_within s e js zero d = rw (add-zero s) (let none = given_before s e js d in omega arith)
given_within s e js (suc m) d =
    let here = given_within s e js m d in
    rw (add-suc s m) (omega (arith, given_by-suc s e js (s + m) d))

-- each job of these due by `end` has had its cost at its deadline
abbrev pub MetBy : List Job → ℕ → Type 0
MetBy js end = (j : Job) → Among js j → j.deadline ≤ end → j.cost ≤ had js j j.deadline

-- a job inside that met its deadline has had its cost at the end of the interval
term_met : (b : Bool) (s e : ℕ) (js : List Job) (j : Job) → is_inside s e j ≡ b → Among js j
    → MetBy js e → cond b j.cost 0 ≤ cond b (had js j e) 0
term_met true s e js j inside a met =
    let due = leb-true _ _ ((and_parts (leb s j.release) (leb j.deadline e) inside).1) in
    let at_deadline = met j a due in
    omega (arith, had_le_had js j j.deadline e due)
term_met false s e js j inside a met = omega arith

-- where every deadline is met, no interval is overloaded
pub met_fits : (js : List Job) (s e : ℕ) → Distinct js → MetBy js e → s ≤ e → demand_in js s e ≤ e - s
unfolding demand_in
met_fits js s e d met le =
    let needed : sum_by (λ j. cond (is_inside s e j) j.cost 0) js ≤ given_by s e js e =
    sum_le (λ j. cond (is_inside s e j) j.cost 0) (λ j. cond (is_inside s e j) (had js j e) 0) js
    (λ j a. term_met (is_inside s e j) s e js j refl a met) in
    let at : s + (e - s) ≡ e = omega arith in
    let bound : given_by s e js e ≤ e - s =
    subst (λ n. given_by s e js n ≤ e - s) at (given_within s e js (e - s) d) in
    omega arith

-- the cell is a job's that is due by `end`
abbrev pub IsDueCell : ℕ → Option Job → Type 0
IsDueCell end None = ⊥
IsDueCell end (Some i) = i.deadline ≤ end

-- the cell is idle, or a job's that is due after `end`
abbrev pub IsSlackCell : ℕ → Option Job → Type 0
IsSlackCell end None = Unit {0}
IsSlackCell end (Some i) = end < i.deadline

-- each tick from the start to the end goes to a job that is due by the end
abbrev pub BusyFrom : List Job → ℕ → ℕ → Type 0
BusyFrom js start end = (x : ℕ) → start ≤ x → x < end → IsDueCell end (cell js x)

-- the interval begins at tick 0 or after a cell that left room
abbrev pub BeginsFresh : List Job → ℕ → ℕ → Type 0
BeginsFresh js start end = (start ≡ 0) ⊎ ((p : ℕ) × (start ≡ suc p) × IsSlackCell end (cell js p))

-- each cell is one or the other, so the busy stretch has a begin
due_or_slack : (end : ℕ) (c : Option Job) → IsDueCell end c ⊎ IsSlackCell end c
due_or_slack end None = inr tt
due_or_slack end (Some i) = elim (cases_lt end i.deadline) [ inl late ↦ inr late | inr due ↦ inl due ]

-- the longest busy stretch before `end`
busy_back : (js : List Job) (end s : ℕ) → BusyFrom js s end
    → (t : ℕ) × (t ≤ s) × BusyFrom js t end × BeginsFresh js t end
busy_back js end zero busy = (0, omega arith, busy, inl refl)
busy_back js end (suc p) busy = elim (due_or_slack end (cell js p)) [
  | inl due ↦ (let longer = busy_back js end p (λ x from below. elim (cases_lt p x) [
    | inl above ↦ busy x (omega arith) below
    | inr at ↦ (let e : p ≡ x = omega arith in subst (λ y. IsDueCell end (cell js y)) e due)
  ]) in
      (longer.0, omega (arith, longer.1), longer.2, longer.3))
  | inr slack ↦ (suc p, omega arith, busy, inr (p, refl, slack))
]

-- a job that still has to get ticks and is due by the end was released inside the stretch
no_pending_at_slack : (js : List Job) (end p : ℕ) (c : Option Job) (i : Job)
    → IsFirst (edf_cells js p) p js c → IsSlackCell end c →
    Among js i → i.deadline ≤ end → is_pending (edf_cells js p) p i ≡ true → ⊥
no_pending_at_slack js end p None i first slack a due pending = false≢true (sym (first i a) ∙ pending)
no_pending_at_slack js end p (Some k) i first slack a due pending = elim (first.2 i a pending) [
  | inl before ↦ omega arith
  | inr same ↦ (let e : k.deadline ≡ i.deadline = same.0 in omega arith)
]

-- a pending job that is due by the end was released in the stretch: at the slack cell before, it
-- would have come first
released_inside : (js : List Job) (end t n : ℕ) (i : Job) → BeginsFresh js t end → Among js i
    → i.deadline ≤ end → t ≤ n → had js i n < i.cost → t ≤ i.release
released_inside js end t n i (inl e) a due le lacks = omega arith
released_inside js end t n i (inr (p, e, slack)) a due le lacks = elim (cases_lt p i.release) [
  | inl after ↦ omega arith
  | inr before ↦ (let so_far = had_le_had js i p n (omega arith) in
      absurd (no_pending_at_slack js end p (cell js p) i (first_pending_is (edf_cells js p) p js) slack a due
      (and_from (leb i.release p) (ltb (had js i p) i.cost) (le-leb _ _ before) (lt-ltb _ _ (omega arith)))))
]

-- a job is itself by its vCPU and deadline
pub self_run : (i : Job) → is_same_job i i ≡ true
self_run i = grind (arith, nat_tests)

-- one cell more takes nothing from a term
term_grows : (b : Bool) (j : Job) (cells : List (Option Job)) (c : Option Job)
    → cond b (cells_of j cells) 0 ≤ cond b (cells_of j (cells ++ c ∷ [])) 0
term_grows true j cells c = rw (cells_of-push j cells c) (omega arith)
term_grows false j cells c = omega arith

-- a tick that goes to a job inside the interval is given inside it
grows_by_one : (s e : ℕ) (js : List Job) (cells : List (Option Job)) (i : Job) → Among js i
    → is_inside s e i ≡ true → given s e js cells < given s e js (cells ++ Some i ∷ [])
grows_by_one s e js cells i a inside =
    sum_lt (λ j. cond (is_inside s e j) (cells_of j cells) 0)
    (λ j. cond (is_inside s e j) (cells_of j (cells ++ Some i ∷ [])) 0) js
    (λ j b. term_grows (is_inside s e j) j cells (Some i)) i a
    (rw inside (rw (cells_of-push i cells (Some i)) (rw (self_run i) (omega arith))))

-- in the stretch each tick goes to a job inside it
busy_tick : (js : List Job) (end t n : ℕ) (c : Option Job) → Distinct js → BeginsFresh js t end
    → t ≤ n → IsFirst (edf_cells js n) n js c → IsDueCell end c →
    given t end js (edf_cells js n) < given t end js (edf_cells js n ++ c ∷ [])
busy_tick js end t n None d fresh le first due = absurd due
busy_tick js end t n (Some i) d fresh le first due =
    let both = and_parts (leb i.release n) (ltb (had js i n) i.cost) first.1 in
    let inside : t ≤ i.release = released_inside js end t n i fresh first.0 due le (ltb-true _ _ both.1) in
    grows_by_one t end js (edf_cells js n) i first.0
    (and_from (leb t i.release) (leb i.deadline end) (le-leb _ _ inside) (le-leb _ _ due))

-- m ticks of the stretch give the jobs inside it at least m
busy_given : (js : List Job) (end t m : ℕ) → Distinct js → BeginsFresh js t end → BusyFrom js t end
    → t + m ≤ end → m ≤ given_by t end js (t + m)
busy_given js end t zero d fresh busy le = omega arith
busy_given js end t (suc m) d fresh busy le =
    let before : m ≤ given_by t end js (t + m) = busy_given js end t m d fresh busy (omega arith) in
    let grows = busy_tick js end t (t + m) (cell js (t + m)) d fresh (omega arith)
    (first_pending_is (edf_cells js (t + m)) (t + m) js)
    (busy (t + m) (omega arith) (omega arith)) in
    rw (add-suc t m) (rw (edf_cells-suc js (t + m)) (omega arith))

-- no job inside has had more than its cost
term_at_most : (b : Bool) (js : List Job) (j : Job) (n : ℕ) → Distinct js → Among js j
    → cond b (had js j n) 0 ≤ cond b j.cost 0
term_at_most true js j n d a = had-le-cost js j n d a
term_at_most false js j n d a = omega arith

-- where a job misses its deadline, some interval that ends there is overloaded
pub miss_overloads : (js : List Job) (m : Job) → Distinct js → Among js m → m.release < m.deadline
    → had js m m.deadline < m.cost →
    (t : ℕ) × (t < m.deadline) × (m.deadline - t < demand_in js t m.deadline)
unfolding demand_in
miss_overloads js m d a some_window lacks =
    let end = m.deadline in
    let stretch = busy_back js end end (λ x from below. absurd (omega arith)) in
    let t = stretch.0 in
    let t_le : t ≤ end = stretch.1 in
    let inside : t ≤ m.release = released_inside js end t end m stretch.3 a (omega arith) t_le lacks in
    let given_all = busy_given js end t (end - t) d stretch.3 stretch.2 (omega arith) in
    let at : t + (end - t) ≡ end = omega arith in
    let given_at_end : end - t ≤ given_by t end js end =
    subst (λ n. end - t ≤ given_by t end js n) at given_all in
    let inside_test : is_inside t end m ≡ true =
    and_from (leb t m.release) (leb m.deadline end) (le-leb _ _ inside)
    (le-leb _ _ (omega arith)) in
    let short : given_by t end js end < sum_by (λ j. cond (is_inside t end j) j.cost 0) js =
    sum_lt (λ j. cond (is_inside t end j) (had js j end) 0) (λ j. cond (is_inside t end j) j.cost 0) js
    (λ j b. term_at_most (is_inside t end j) js j end d b) m a (rw inside_test lacks) in
    (t, omega arith, omega arith)

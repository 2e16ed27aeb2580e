-- How many cells a job has had by a tick.
use Rattle.std.proofs.Common.{◌≡◌, ℕ, zero, suc, ◌+◌, ◌-◌, ◌<◌, ◌≤◌, true, cond, eqb, ltb, leb, List, [], ◌∷◌, Option, Some, None, refl, ap, subst, sym, ◌∙◌, inl, inr, arith, add-zero, add-suc}
use Rattle.std.proofs.lemmas.Bool.{cases_Bool, false≢true, and_parts, leb-true, ltb-true, eqb-true}
use Rattle.table_form.specs.Planning.Jobs.{Job}
use Rattle.table_form.specs.Planning.EdfRow.{cells_of, is_run_of, is_pending, edf_cells}
use Rattle.edf_table.specs.Inside.Progress.{Among, cell, had}
use Rattle.edf_table.proofs.Cells.{cells_of-push, cells_of-none, edf_cells-suc, edf_cells-zero}
use Rattle.edf_table.proofs.First.{IsFirst, first_pending_is}

-- the jobs of a list differ in vCPU or deadline
abbrev pub Distinct : List Job → Type 0
Distinct [] = Unit {0}
Distinct (j ∷ js) = ((k : Job) → Among js k → k.vcpu ≡ j.vcpu → k.deadline ≡ j.deadline → ⊥) × Distinct js

-- two jobs of a list with one vCPU and one deadline are one
pub distinct_same : (js : List Job) (i j : Job) → Distinct js → Among js i → Among js j
    → i.vcpu ≡ j.vcpu → i.deadline ≡ j.deadline → i ≡ j
distinct_same [] i j d a b v t = absurd a
distinct_same (x ∷ xs) i j d (inl e) (inl f) v t = sym e ∙ f
distinct_same (x ∷ xs) i j d (inl e) (inr b) v t =
    absurd (d.0 j b (sym v ∙ sym (ap (λ (y : Job). y.vcpu) e))
    (sym t ∙ sym (ap (λ (y : Job). y.deadline) e)))
distinct_same (x ∷ xs) i j d (inr a) (inl f) v t =
    absurd (d.0 i a (v ∙ sym (ap (λ (y : Job). y.vcpu) f))
    (t ∙ sym (ap (λ (y : Job). y.deadline) f)))
distinct_same (x ∷ xs) i j d (inr a) (inr b) v t = distinct_same xs i j d.1 a b v t

-- a job has one cell more where the tick is its
pub had-suc : (js : List Job) (j : Job) (n : ℕ)
    → had js j (suc n) ≡ had js j n + cond (is_run_of j (cell js n)) 1 0
had-suc js j n = ap (cells_of j) (edf_cells-suc js n) ∙ cells_of-push j (edf_cells js n) (cell js n)

-- a job has no cell at the begin
pub had-zero : (js : List Job) (j : Job) → had js j 0 ≡ 0
had-zero js j = ap (cells_of j) (edf_cells-zero js) ∙ cells_of-none j

-- the tick goes to the first pending job, so whoever has it was pending
first_run : (cells : List (Option Job)) (n : ℕ) (js : List Job) (c : Option Job) (j : Job)
    → IsFirst cells n js c → Distinct js → Among js j →
    is_run_of j c ≡ true → is_pending cells n j ≡ true
first_run cells n js None j h d a r = absurd (false≢true r)
first_run cells n js (Some i) j h d a r =
    let both = and_parts (eqb i.vcpu j.vcpu) (eqb i.deadline j.deadline) r in
    let same : i ≡ j = distinct_same js i j d h.0 a (eqb-true _ _ both.0) (eqb-true _ _ both.1) in
    subst (λ (x : Job). is_pending cells n x ≡ true) same h.1

-- a job that gets a tick was pending there
pub run_was_pending : (js : List Job) (j : Job) (n : ℕ) → Distinct js → Among js j
    → is_run_of j (cell js n) ≡ true → (j.release ≤ n) × (had js j n < j.cost)
run_was_pending js j n d a r =
    let p = first_run (edf_cells js n) n js (cell js n) j (first_pending_is (edf_cells js n) n js) d a r in
    let both = and_parts (leb j.release n) (ltb (had js j n) j.cost) p in
    (leb-true _ _ both.0, ltb-true _ _ both.1)

-- before its window a job has had nothing
pub nothing_early : (js : List Job) (j : Job) (n : ℕ) → Distinct js → Among js j → n ≤ j.release
    → had js j n ≡ 0
nothing_early js j zero d a le = had-zero js j
nothing_early js j (suc n) d a le =
    let before : had js j n ≡ 0 = nothing_early js j n d a (omega arith) in
    elim (cases_Bool (is_run_of j (cell js n))) [
      | inl r ↦ absurd (let p = run_was_pending js j n d a r in omega arith)
      | inr r ↦ had-suc js j n ∙ (rw r (rw before refl))
    ]

-- no job gets more than its cost
pub had-le-cost : (js : List Job) (j : Job) (n : ℕ) → Distinct js → Among js j → had js j n ≤ j.cost
had-le-cost js j zero d a = rw (had-zero js j) (omega arith)
had-le-cost js j (suc n) d a =
    elim (cases_Bool (is_run_of j (cell js n))) [
      | inl r ↦ (let p = run_was_pending js j n d a r in rw (had-suc js j n) (rw r (omega arith)))
      | inr r ↦ (let before = had-le-cost js j n d a in rw (had-suc js j n) (rw r (omega arith)))
    ]

-- what was had stays had
pub had_later : (js : List Job) (j : Job) (n m : ℕ) → had js j n ≤ had js j (n + m)
had_later js j n zero = rw (add-zero n) (omega arith)
had_later js j n (suc m) =
    let here : had js j n ≤ had js j (n + m) = had_later js j n m in
    rw (add-suc n m) (rw (had-suc js j (n + m)) (omega arith))

-- what was had at a tick is at most what was had at a later one
pub had_le_had : (js : List Job) (j : Job) (n e : ℕ) → n ≤ e → had js j n ≤ had js j e
had_le_had js j n e le = subst (λ m. had js j n ≤ had js j m) (omega arith) (had_later js j n (e - n))

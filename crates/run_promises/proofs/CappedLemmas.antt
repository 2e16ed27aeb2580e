-- A capped vCPU runs only where its round's plan has it, and so at no more ticks than its cost.
use Rattle.std.proofs.Common.{◌≡◌, ℕ, zero, suc, ◌+◌, ◌*◌, ◌/◌, ◌%◌, ◌≤◌, Bool, true, false, List, Option, Some, refl, sym, subst, arith}
use Rattle.std.specs.Prelude.{slice_get, IsTrue, nat_le, nat_lt, ◌&&◌, take}
use Rattle.std.specs.List.{list_any}
use Rattle.std.proofs.lemmas.Bool.{and_parts, both_ways, leb-true, ltb-true}
use Rattle.std.proofs.lemmas.List.Folds.{Any-from_list_any}
use Rattle.std.proofs.lemmas.Option.{slice_get_read}
use Rattle.tab_core.specs.declared.TheConstants.{ROUND}
use Rattle.tab_core.specs.declared.stint.Stint.{Stint}
use Rattle.tab_core.specs.VcpuSets.{has_vcpu}
use Rattle.tab_core.proofs.Periods.{period_facts}
use Rattle.tab_core.proofs.Lists.{same}
use Rattle.table_form.specs.Promises.Capped.{KeepsCaps, capped_by, runs_at, runs_in, ticks_run}
use Rattle.table_form.specs.Running.Courses.{CourseView, IsCourse, plan_after}
use Rattle.table_form.specs.Running.Invariant.{StateInvariant}
use Rattle.table_form.specs.Promises.Offered.{some_row_has}
use Rattle.table_form.specs.Running.State.{State, CoreState, IsCore}
use Rattle.table_form.specs.Promises.Together.{Covers}
use Rattle.table_form.specs.Tables.Plans.{PlanView}
use Rattle.table_form.specs.Tables.Rows.{Row}
use Rattle.table_form.specs.Tables.Serves.{is_cell_of, owner_at, supply}
use Rattle.table_form.proofs.OfferedLemmas.{cell_is, row_has}
use Rattle.run_promises.proofs.CourseLemmas.{exact_after}
use Rattle.run_promises.proofs.OfferedLemmas.{one, one_at_least, supply_step}
use Rattle.run_promises.proofs.ServedLemmas.{period_fits, task_found}
use Rattle.run_promises.proofs.TogetherLemmas.{Stands, owns, fills, stint_stands}

-- an element that passes a test, and its place
of_any : {X : Type 0} (p : X → Bool) (xs : List X) → list_any p xs ≡ true
    → (k : ℕ) × (x : X) × (slice_get xs k ≡ Some x) × (p x ≡ true)
of_any p xs h =
    let found = Any-from_list_any p xs h in
    (found.0, found.1, slice_get_read xs _ found.0 found.1 refl found.2 (sym found.3), found.4)

-- the stint in which a vCPU runs at a tick
record RunsThere (s : State) (v x : ℕ) : Type 0 where
  c : ℕ
  core : CoreState
  stint : Stint
  at : IsCore s c core
  covers : Covers core x stint
  ran : stint.ran ≡ Some v

-- there is one where the vCPU runs
runs_there : (s : State) (v x : ℕ) → runs_at s v x ≡ true → RunsThere s v x
runs_there s v x h =
    let core = of_any (λ (k : CoreState). list_any (runs_in v x) k.stints) s.cores h in
    let found = of_any (runs_in v x) core.1.stints core.3 in
    let st : Stint = found.1 in
    let begun = and_parts (nat_le st.from x) (nat_lt x st.end && is_cell_of v st.ran) found.3 in
    let going = and_parts (nat_lt x st.end) (is_cell_of v st.ran) begun.1 in
    record {
      c = core.0;
      core = core.1;
      stint = st;
      at = core.2;
      covers = record {
        place = found.0;
        at = found.2;
        begun = leb-true st.from x begun.0;
        going = ltb-true x st.end going.0;
      };
      ran = cell_is v st.ran going.1;
    }

-- a capped vCPU that is at a place owns it, since it is no sharer
capped_owns : (plan : PlanView) (c place v : ℕ) → IsTrue (has_vcpu plan.capped v) → Stands plan c place v
    → owner_at plan.rows c place ≡ Some v
capped_owns plan c place v capped (owns o) = o
capped_owns plan c place v capped (fills s) = absurd (both_ways (has_vcpu plan.capped v) s.uncapped capped)

-- at a tick at which a capped vCPU runs, some row of its round's plan has it
capped_offered : (course : CourseView) (rounds : ℕ) (s : State) (v x r count : ℕ)
    → StateInvariant course rounds s → x / ROUND ≡ r → slice_get s.decided r ≡ Some count
    → IsTrue (has_vcpu (plan_after course count).capped v) → runs_at s v x ≡ true
    → some_row_has (plan_after course count).rows v (x % ROUND) ≡ true
capped_offered course rounds s v x r count kept round at capped runs =
    let there = runs_there s v x runs in
    let st : Stint = there.stint in
    let covers = there.covers in
    let stints = (kept.cores there.c there.core there.at).stints in
    let stands = stint_stands course there.c (take covers.place there.core.stints) st x v
    (stints.each covers.place st covers.at).dispatch covers.begun covers.going there.ran in
    let uses = (kept.table.cores there.c there.core there.at).stints covers.place st covers.at in
    let used : st.used ≡ count = same (slice_get s.decided r) st.used count (rw (← round, ← stands.0) uses) at in
    row_has (plan_after course count).rows v (x % ROUND) there.c
    (capped_owns (plan_after course count) there.c (x % ROUND) v capped
    (subst (λ (n : ℕ). Stands (plan_after course n) there.c (x % ROUND) v) used stands.1))

-- a test that passes only where another does counts no more
more_if : (a b : Bool) → (a ≡ true → b ≡ true) → one a ≤ one b
more_if true true h = omega arith
more_if true false h = absurd (let e = h refl in cc)
more_if false b h = omega arith

-- it runs at no more ticks than it has cells
runs_supply : (course : CourseView) (rounds : ℕ) (s : State) (v r count start n : ℕ)
    → StateInvariant course rounds s → slice_get s.decided r ≡ Some count
    → IsTrue (has_vcpu (plan_after course count).capped v) → start + n ≤ ROUND
    → ticks_run s v (r * ROUND + start) n ≤ supply v (plan_after course count).rows start (start + n)
unfolding ticks_run
runs_supply course rounds s v r count start zero kept at capped within = omega arith
runs_supply course rounds s v r count start (suc n) kept at capped within =
    let x : ℕ = r * ROUND + start + n in
    let round : x / ROUND ≡ r = omega arith in
    let place : x % ROUND ≡ start + n = omega arith in
    let rows : List Row = (plan_after course count).rows in
    let here : one (runs_at s v x) ≤ one (some_row_has rows v (start + n)) =
    more_if (runs_at s v x) (some_row_has rows v (start + n)) (λ runs.
    subst (λ (p : ℕ). some_row_has rows v p ≡ true) place
    (capped_offered course rounds s v x r count kept round at capped runs)) in
    omega (
      arith,
      here,
      one_at_least v rows (start + n),
      supply_step v rows start n,
      runs_supply course rounds s v r count start n kept at capped (omega arith),
    )

-- capped in a round that has a count is capped in its plan
capped_there : (course : CourseView) (o : Option ℕ) (v count : ℕ) → o ≡ Some count → IsTrue (capped_by course o v)
    → IsTrue (has_vcpu (plan_after course count).capped v)
capped_there course o v count is capped = rw is at capped

-- the promise: no more ticks than cells, and of these the plan has exactly the cost
pub keeps_caps : (course : CourseView) (rounds : ℕ) (s : State) → IsCourse course
    → StateInvariant course rounds s → KeepsCaps course s
keeps_caps course rounds s ok kept = λ r v k task capped has lt.
    let found = task_found course (slice_get s.decided r) v task has in
    let count : ℕ = found.0 in
    let in_plan = capped_there course (slice_get s.decided r) v count found.1 capped in
    let facts = period_facts task.period task.listed in
    let fits = period_fits task.period (ROUND / task.period) k facts.whole lt in
    let most = runs_supply course rounds s v r count (k * task.period) task.period kept found.1 in_plan fits in
    let end : (k + 1) * task.period ≡ k * task.period + task.period = grind arith in
    let cells : supply v (plan_after course count).rows (k * task.period) (k * task.period + task.period)
    ≡ task.cost =
    rw (← end) (exact_after course ok count v task found.2 in_plan k lt) in
    omega (arith, most, cells)

-- Where a vCPU is offered a tick and has been seen runnable, it runs.
use Rattle.std.proofs.Common.{◌≡◌, ℕ, ◌*◌, ◌/◌, ◌%◌, ◌<◌, ◌≤◌, inl, inr, true, length, Option, Some, None, refl, subst, ◌∙◌, arith}
use Rattle.std.specs.Prelude.{slice_get, nat_le, nat_lt, IsTrue, ◌&&◌}
use Rattle.std.specs.List.{list_any}
use Rattle.std.proofs.lemmas.Grind.{common_steps}
use Rattle.std.proofs.lemmas.Map.Keys.{any_passes_from_place}
use Rattle.std.proofs.lemmas.Bool.Decides.{nat_tests}
use Rattle.tab_core.specs.declared.TheConstants.{ROUND}
use Rattle.tab_core.specs.declared.stint.Stint.{Stint}
use Rattle.tab_core.specs.VcpuSets.{has_vcpu}
use Rattle.tab_core.proofs.Lists.{element_at, same}
use Rattle.table_form.specs.Running.Choice.{owner_runs}
use Rattle.table_form.specs.Running.Courses.{CourseView, IsCourse, plan_after, plan_number_after, runnable_after, no_plan}
use Rattle.table_form.specs.Running.Complete.{IsComplete}
use Rattle.table_form.specs.Running.Invariant.{StateInvariant}
use Rattle.table_form.specs.Promises.Offered.{is_offered, offers_by}
use Rattle.table_form.specs.Tables.Serves.{owner_at, is_cell_of}
use Rattle.table_form.specs.Running.State.{State, CoreState, IsCore}
use Rattle.table_form.specs.Promises.Together.{Covers}
use Rattle.table_form.proofs.OfferedLemmas.{has_row}
use Rattle.table_form.proofs.SpotLemmas.{owner_within}
use Rattle.run_promises.proofs.BusyLemmas.{is_busy}
use Rattle.run_promises.proofs.Lists.{either}
use Rattle.table_form.specs.Promises.Capped.{runs_in, runs_at}
use Rattle.burst_bound.specs.Bursts.{IsSeenFrom}

-- an offered tick is one of a row of its round's plan
offer_of : (course : CourseView) (count : Option ℕ) (v place : ℕ) → offers_by course count v place ≡ true
    → (d : ℕ) × (c : ℕ) × (count ≡ Some d) × (owner_at (plan_after course d).rows c place ≡ Some v)
offer_of course None v place h = absurd cc
offer_of course (Some d) v place h =
    (let row = has_row (plan_after course d).rows v place h in (d, row.0, refl, row.1))

-- a row of a plan is a core's
core_of_row : (course : CourseView) → IsCourse course → (d c place v : ℕ)
    → owner_at (plan_after course d).rows c place ≡ Some v → c < course.cores
core_of_row course ok d c place v owner = elim (either course.plans (plan_number_after course d) no_plan) [
  | inl listed ↦
      let rows = ok.form.in_rows (plan_number_after course d) (plan_after course d) listed in
      let lt = owner_within (plan_after course d).rows c place v owner in
      omega (arith, rows, lt)
  | inr none ↦ absurd (cc (rw none at owner))
]

in_stint : (v x from end : ℕ) (ran : Option ℕ) → from ≤ x → x < end → ran ≡ Some v
    → (nat_le from x && (nat_lt x end && is_cell_of v ran)) ≡ true
in_stint v x from end ran low high is = rw is (grind (arith, nat_tests, common_steps))

runs_here : (s : State) (v x c : ℕ) (core : CoreState) (st : Stint) → IsCore s c core → Covers core x st
    → st.ran ≡ Some v → runs_at s v x ≡ true
runs_here s v x c core st at covers is =
    any_passes_from_place (λ (k : CoreState). list_any (runs_in v x) k.stints) s.cores c core at
    (any_passes_from_place (runs_in v x) core.stints covers.place st covers.at
    (in_stint v x st.from st.end st.ran covers.begun covers.going is))

joined : (a b : Option ℕ) (v : ℕ) → a ≡ b → b ≡ Some v → a ≡ Some v
joined a b v h g = h ∙ g

moved : (course : CourseView) (c place v m n : ℕ) → m ≡ n
    → owner_at (plan_after course m).rows c place ≡ Some v
    → owner_at (plan_after course n).rows c place ≡ Some v
moved course c place v m n is h =
    subst (λ (k : ℕ). owner_at (plan_after course k).rows c place ≡ Some v) is h

-- an offered tick at which each count has the vCPU runnable is one at which it runs
pub offered_runs : (course : CourseView) (rounds : ℕ) (s : State) (event v x from : ℕ) → IsCourse course
    → StateInvariant course rounds s → IsComplete course rounds s → IsSeenFrom s event from
    → ((n : ℕ) → event < n → n ≤ length course.ticks → IsTrue (has_vcpu (runnable_after course n) v))
    → from ≤ x → x < rounds * ROUND → is_offered course s.decided v x ≡ true → runs_at s v x ≡ true
offered_runs course rounds s event v x from ok kept whole seen runnable low high offered =
    let offer = offer_of course (slice_get s.decided (x / ROUND)) v (x % ROUND) offered in
    let d : ℕ = offer.0 in
    let c : ℕ = offer.1 in
    let posted = kept.decided_posted (x / ROUND) d offer.2 in
    let most = kept.posted_most in
    let below = core_of_row course ok d c (x % ROUND) v offer.3 in
    let core = element_at s.cores c (omega (arith, kept.size, below)) in
    let busy = is_busy course rounds s ok kept in
    let clock = whole.clocks c core.0 core.1 in
    let found = busy.covered c x core.0 core.1 (omega (arith, clock, high)) in
    let st : Stint = found.0 in
    let covers : Covers core.0 x st = found.1 in
    let of = kept.cores c core.0 core.1 in
    let facts = of.stints.each covers.place st covers.at in
    let begun = covers.begun in
    let going = covers.going in
    let inside = (of.timeline.each covers.place st covers.at).in_round in
    let round : st.from / ROUND ≡ x / ROUND = omega arith in
    let uses = (kept.table.cores c core.0 core.1).stints covers.place st covers.at in
    let used : d ≡ st.used = same (slice_get s.decided (x / ROUND)) d st.used offer.2 (rw round at uses) in
    let owner : owner_at (plan_after course st.used).rows c (x % ROUND) ≡ Some v =
    moved course c (x % ROUND) v d st.used used offer.3 in
    let ready : has_vcpu (runnable_after course st.seen) v ≡ true =
    runnable st.seen (seen c x core.0 st core.1 covers low) (let le = facts.seen_posted in omega arith) in
    let runs : owner_runs (owner_at (plan_after course st.used).rows c (x % ROUND)) (runnable_after course st.seen) ≡ true =
    rw owner ready in
    let ran : st.ran ≡ Some v =
    joined st.ran (owner_at (plan_after course st.used).rows c (x % ROUND)) v
    ((busy.busy c x core.0 st core.1 covers).slot runs) owner in
    runs_here s v x c core.0 st core.1 covers ran

-- At each tick of a stint the core runs whom the rules want, by a fresh count.
use Rattle.std.proofs.Common.{ℕ, ◌%◌, ◌<◌, ◌≤◌, Bool, List, Option, Some, None, ◌∙◌, arith}
use Rattle.std.specs.Prelude.{MatchOption}
use Rattle.tab_core.proofs.TimelineLemmas.{covering, one_stint}
use Rattle.tab_core.specs.declared.TheConstants.{ROUND}
use Rattle.tab_core.specs.declared.stint.Stint.{Stint}
use Rattle.table_form.specs.Promises.Busy.{IsBusyAt, IsBusy}
use Rattle.table_form.specs.Running.Choice.{IsDispatch, IsEligible, IsPick, last_shared}
use Rattle.table_form.specs.Running.Courses.{CourseView, IsCourse, plan_after, runnable_after}
use Rattle.table_form.specs.Running.Invariant.{StateInvariant}
use Rattle.table_form.specs.Running.State.{State}
use Rattle.table_form.specs.Tables.Plans.{PlanView}
use Rattle.run_promises.proofs.ChoiceLemmas.{picked, stint_bounds, stint_within, eligible_alike, eligible_back}

-- a pick stays one where the same vCPUs may run, whoever ran last
filled_by : (eligible fills : ℕ → Type 0) (last ran : Option ℕ) → ((v : ℕ) → eligible v → fills v)
    → ((v : ℕ) → fills v → eligible v) → IsPick eligible last ran
    → MatchOption ran ((v : ℕ) → fills v → ⊥) (λ v. fills v)
filled_by eligible fills last None to back pick = λ v m. pick v (back v m)
filled_by eligible fills last (Some v) to back pick = to v (picked eligible last v pick)

-- whom a stint runs is right at each of its ticks, since their places are like that of its begin
busy_at : (course : CourseView) (c : ℕ) (earlier : List Stint) (s : Stint) (x : ℕ)
    → IsDispatch course c earlier s → s.from ≤ x → x < s.end
    → IsBusyAt (plan_after course s.used) c (x % ROUND) (runnable_after course s.seen) s.ran
busy_at course c earlier s x f low lt =
    let plan : PlanView = plan_after course s.used in
    let runnable : List Bool = runnable_after course s.seen in
    let alike = (stint_within course c earlier s x f low lt).alike in
    record {
      slot = λ runs. f.choice.slot (rw alike.owner runs) ∙ alike.owner;
      filled = λ waits. filled_by (IsEligible plan c (s.from % ROUND) runnable)
          (IsEligible plan c (x % ROUND) runnable) (last_shared course c earlier) s.ran
          (λ v e. eligible_alike plan c (s.from % ROUND) (x % ROUND) runnable v alike e)
          (λ v e. eligible_back plan c (s.from % ROUND) (x % ROUND) runnable v alike e)
          (f.choice.shared (rw alike.owner waits));
    }

-- the promise, over all cores
pub is_busy : (course : CourseView) (rounds : ℕ) (s : State) → IsCourse course
    → StateInvariant course rounds s → IsBusy course s
is_busy course rounds s ok kept = record {
  busy = λ c x core st at covers. busy_at course c _ st x
      ((kept.cores c core at).stints.each covers.place st covers.at).dispatch covers.begun covers.going;
  fresh = λ c x i core st at covers lt due. (let k = kept.cores c core at in
      let bounds = stint_bounds course c _ st ok (k.stints.each covers.place st covers.at).dispatch in
      (k.stints.each covers.place st covers.at).fresh.has i lt
      (let going = covers.going in omega (arith, bounds.2)));
  covered =
      λ c x core at lt.
      (let found = covering 0 core.clock core.stints x (kept.cores c core at).timeline.contiguous (omega arith) lt in
      (found.1, record { place = found.0; at = found.2; begun = found.3; going = found.4 }));
  one = λ c x core st su at a b. (let k = kept.cores c core at in
      one_stint 0 core.clock core.stints a.place b.place x st su k.timeline.contiguous
      (λ i u h. (k.timeline.each i u h).some_ticks) a.at b.at a.begun a.going b.begun b.going);
}

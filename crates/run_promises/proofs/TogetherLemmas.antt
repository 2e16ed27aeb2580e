-- Nobody runs on two cores at one tick: both use one plan, in which one core alone has the vCPU there.
use Rattle.std.proofs.Common.{◌≡◌, ℕ, ◌/◌, ◌%◌, ◌<◌, ◌≤◌, inl, inr, Bool, true, false, List, Option, Some, refl, sym, subst, ◌∙◌}
use Rattle.std.specs.Prelude.{slice_get}
use Rattle.std.proofs.lemmas.Bool.{cases_eq}
use Rattle.tab_core.specs.declared.TheConstants.{ROUND}
use Rattle.tab_core.specs.declared.stint.Stint.{Stint}
use Rattle.tab_core.proofs.Lists.{same}
use Rattle.table_form.specs.Running.Choice.{IsDispatch, IsEligible, IsPick, owner_runs, last_shared}
use Rattle.table_form.specs.Running.Courses.{CourseView, IsCourse, plan_after, runnable_after}
use Rattle.table_form.specs.Running.Invariant.{StateInvariant}
use Rattle.table_form.specs.Running.State.{State}
use Rattle.table_form.specs.Promises.Together.{RunsOnOneCore}
use Rattle.table_form.specs.Tables.Plans.{PlanView}
use Rattle.table_form.specs.Tables.Serves.{owner_at, Apart}
use Rattle.table_form.specs.Tables.Spans.{IsSharer}
use Rattle.table_form.proofs.SpotLemmas.{sharer_moves}
use Rattle.run_promises.proofs.ChoiceLemmas.{Within, picked, stint_within}
use Rattle.run_promises.proofs.CourseLemmas.{apart_after}

-- how a vCPU comes to run on a core: it owns the place, or it may share it
pub data Stands (plan : PlanView) (c place v : ℕ) : Type 0 where
  owns : owner_at plan.rows c place ≡ Some v → Stands plan c place v
  fills : IsSharer plan c place v → Stands plan c place v

-- in a plan whose rows are apart that is so of one core at most
apart_stands : (plan : PlanView) (c d place v : ℕ) → Apart plan.rows → Stands plan c place v
    → Stands plan d place v → c ≡ d
apart_stands plan c d place v apart (owns o) (owns o') = apart v place c d o o'
apart_stands plan c d place v apart (owns o) (fills s) =
    elim (cases_eq c d) [ inl is ↦ is | inr isnt ↦ absurd (s.here c isnt o) ]
apart_stands plan c d place v apart (fills s) (owns o) =
    elim (cases_eq c d) [ inl is ↦ is | inr isnt ↦ absurd (s.here d (λ e. isnt (sym e)) o) ]
apart_stands plan c d place v apart (fills s) (fills s') =
    same_home c d (slice_get plan.homes v) s.home s'.home
  where
    same_home : (a b : ℕ) (o : Option (Option ℕ)) → o ≡ Some (Some a) → o ≡ Some (Some b) → a ≡ b
    same_home a b o h g = cc

-- whom a stint runs is there at each of its ticks
pub stint_stands : (course : CourseView) (c : ℕ) (earlier : List Stint) (s : Stint) (x v : ℕ)
    → IsDispatch course c earlier s → s.from ≤ x → x < s.end → s.ran ≡ Some v
    → (s.from / ROUND ≡ x / ROUND) × Stands (plan_after course s.used) c (x % ROUND) v
stint_stands course c earlier s x v f low lt ran = (
  at.round,
  stands_by (owner_runs (owner_at plan.rows c (s.from % ROUND)) (runnable_after course s.seen))
      refl,
)
  where
    plan : PlanView
    plan = plan_after course s.used

    at : Within course c s x
    at = stint_within course c earlier s x f low lt

    stands_by : (b : Bool)
        → owner_runs (owner_at (plan_after course s.used).rows c (s.from % ROUND))
        (runnable_after course s.seen) ≡ b → Stands (plan_after course s.used) c (x % ROUND) v
    stands_by true is = owns (sym at.alike.owner ∙ (sym (f.choice.slot is) ∙ ran))
    stands_by false is =
        let e = picked (IsEligible (plan_after course s.used) c (s.from % ROUND)
        (runnable_after course s.seen)) (last_shared course c earlier) v
        (subst (λ (o : Option ℕ). IsPick
        (IsEligible (plan_after course s.used) c (s.from % ROUND)
        (runnable_after course s.seen)) (last_shared course c earlier) o) ran
        (f.choice.shared is)) in
        fills (sharer_moves (plan_after course s.used) c (s.from % ROUND) (x % ROUND) v at.alike e.sharer)

-- the promise, since both stints use their round's one count
pub one_core : (course : CourseView) (rounds : ℕ) (s : State) → IsCourse course
    → StateInvariant course rounds s → RunsOnOneCore s
one_core course rounds s ok kept = λ x v c d core other st su at at' covers covers' ran ran'.
    let k = kept.cores c core at in
    let k' = kept.cores d other at' in
    let a = stint_stands course c _ st x v
    (k.stints.each covers.place st covers.at).dispatch covers.begun covers.going ran in
    let b = stint_stands course d _ su x v
    (k'.stints.each covers'.place su covers'.at).dispatch covers'.begun covers'.going ran' in
    let used = (kept.table.cores c core at).stints covers.place st covers.at in
    let used' = (kept.table.cores d other at').stints covers'.place su covers'.at in
    let one : st.used ≡ su.used = same (slice_get s.decided (x / ROUND)) st.used su.used
    (rw (← a.0) used) (rw (← b.0) used') in
    apart_stands (plan_after course su.used) c d (x % ROUND) v (apart_after course ok su.used)
    (subst (λ (n : ℕ). Stands (plan_after course n) c (x % ROUND) v) one a.1) b.1

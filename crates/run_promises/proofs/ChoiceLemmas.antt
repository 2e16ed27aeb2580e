-- A stint as the rules choose it: its length, and the places that it covers, which are alike.
use Rattle.std.proofs.Common.{◌≡◌, ℕ, ◌+◌, ◌-◌, ◌*◌, ◌/◌, ◌%◌, ◌<◌, ◌≤◌, inl, inr, min, cond, Bool, true, false, List, [], ◌∷◌, ◌++◌, Option, Some, None, sym, arith}
use Rattle.std.proofs.lemmas.List.Sums.{fold_push}
use Rattle.tab_core.specs.declared.TheConstants.{ROUND}
use Rattle.tab_core.specs.declared.stint.Stint.{Stint}
use Rattle.table_form.specs.Running.Choice.{IsDispatch, IsEligible, IsPick, is_shared, last_after, last_shared}
use Rattle.table_form.specs.Running.Courses.{CourseView, IsCourse, plan_after}
use Rattle.table_form.specs.Tables.Plans.{PlanView}
use Rattle.table_form.specs.Tables.Spots.{SameSpot}
use Rattle.table_form.proofs.SpotLemmas.{sharer_moves}

-- the arithmetic of `stint_bounds`, with and without the quantum
end_bounds : (b : Bool) (f e span lag quantum : ℕ)
    → e ≡ cond b (min (min (f - f % ROUND + span) (f + lag)) (f + quantum))
    (min (f - f % ROUND + span) (f + lag)) →
    f % ROUND < span → span ≤ ROUND → 1 ≤ lag → 1 ≤ quantum
    → (f < e) × (e ≤ (f / ROUND + 1) * ROUND) × (e ≤ f + lag)
end_bounds true f e span lag quantum is after within l q = (omega arith, omega arith, omega arith)
end_bounds false f e span lag quantum is after within l q = (omega arith, omega arith, omega arith)

-- a stint has at least one tick, stays in its round and is no longer than the lag
pub stint_bounds : (course : CourseView) (c : ℕ) (earlier : List Stint) (s : Stint)
    → IsCourse course → IsDispatch course c earlier s
    → (s.from < s.end) × (s.end ≤ (s.from / ROUND + 1) * ROUND) × (s.end ≤ s.from + course.lag)
stint_bounds course c earlier s ok f =
    end_bounds (is_shared course c s) s.from s.end f.span_end course.lag course.quantum f.end
    f.span.after f.span.within ok.form.outline.some_lag ok.form.outline.some_quantum

-- whoever is picked is eligible
pub picked : (eligible : ℕ → Type 0) (last : Option ℕ) (v : ℕ) → IsPick eligible last (Some v) → eligible v
picked eligible last v pick = elim pick [ inl least ↦ least.holds | inr round ↦ round.1.holds ]

-- the arithmetic of `stint_within`, with and without the quantum
end_in_span : (b : Bool) (f e span lag quantum x : ℕ)
    → e ≡ cond b (min (min (f - f % ROUND + span) (f + lag)) (f + quantum))
    (min (f - f % ROUND + span) (f + lag)) →
    f ≤ x → x < e → span ≤ ROUND → (f / ROUND ≡ x / ROUND) × (f % ROUND ≤ x % ROUND) × (x % ROUND < span)
end_in_span true f e span lag quantum x is low lt within = (omega arith, omega arith, omega arith)
end_in_span false f e span lag quantum x is low lt within = (omega arith, omega arith, omega arith)

-- a tick of a stint is in its round, and its place is like that of the stint's begin
pub record Within (course : CourseView) (c : ℕ) (s : Stint) (x : ℕ) : Type 0 where
  pub round : s.from / ROUND ≡ x / ROUND
  pub alike : SameSpot (plan_after course s.used) c (s.from % ROUND) (x % ROUND)

-- each tick that a stint covers is so
pub stint_within : (course : CourseView) (c : ℕ) (earlier : List Stint) (s : Stint) (x : ℕ)
    → IsDispatch course c earlier s → s.from ≤ x → x < s.end → Within course c s x
stint_within course c earlier s x f low lt =
    let places = end_in_span (is_shared course c s) s.from s.end f.span_end course.lag
    course.quantum x f.end low lt f.span.within in
    record { round = places.0; alike = f.span.alike (x % ROUND) places.1 places.2 }

-- whoever is eligible at the first of two alike ticks is so at the second
pub eligible_alike : (plan : PlanView) (c x y : ℕ) (runnable : List Bool) (v : ℕ)
    → SameSpot plan c x y → IsEligible plan c x runnable v → IsEligible plan c y runnable v
eligible_alike plan c x y runnable v alike e =
    record { number = e.number; ready = e.ready; sharer = sharer_moves plan c x y v alike e.sharer }

-- whoever is eligible at the second of two alike ticks is so at the first
pub eligible_back : (plan : PlanView) (c x y : ℕ) (runnable : List Bool) (v : ℕ)
    → SameSpot plan c x y → IsEligible plan c y runnable v → IsEligible plan c x runnable v
eligible_back plan c x y runnable v alike e =
    eligible_alike plan c y x runnable v
    (record { owner = sym alike.owner; away = alike.back; back = alike.away }) e

-- who was picked last, after one stint more
pub last_more : (course : CourseView) (c : ℕ) (stints : List Stint) (s : Stint)
    → last_shared course c (stints ++ s ∷ []) ≡ last_after course c (last_shared course c stints) s
last_more course c stints s = fold_push (last_after course c) None stints s

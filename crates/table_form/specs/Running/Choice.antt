-- Whom a core runs in a stint, and until when.
-- Source: the second level of the Tableau scheduler (M. Vanga, A. Gujarati, B. B. Brandenburg,
-- EuroSys 2018), which gives a core's unused time to the vCPUs at home there; the round robin by
-- number, the lag and the quantum are this project's.
use Rattle.std.specs.Prelude.{◌≡◌, ◌⊎◌, ℕ, ◌+◌, ◌-◌, ◌%◌, ◌<◌, ◌≤◌, Bool, true, false, not, min, List, Option, Some, None, IsTrue, fold, if◌then◌else◌}
use Rattle.tab_core.specs.declared.TheConstants.{MAX_VCPUS, ROUND}
use Rattle.tab_core.specs.declared.stint.Stint.{Stint}
use Rattle.tab_core.specs.Least.{IsLeast}
use Rattle.tab_core.specs.VcpuSets.{has_vcpu}
use Rattle.table_form.specs.Tables.Plans.{PlanView}
use Rattle.table_form.specs.Tables.Serves.{is_cell_of, owner_at}
use Rattle.table_form.specs.Tables.Spans.{IsSharer}
use Rattle.table_form.specs.Tables.Spots.{IsSpanEnd}
use Rattle.table_form.specs.Running.Courses.{CourseView, plan_after, runnable_after}

-- the vCPU may have the core's unused time at the place: it is a sharer there, and runnable
pub record IsEligible (plan : PlanView) (c place : ℕ) (runnable : List Bool) (v : ℕ) : Type 0 where
  pub number : v < MAX_VCPUS
  pub ready : IsTrue (has_vcpu runnable v)
  pub sharer : IsSharer plan c place v

-- the first number above the last pick
abbrev pub after_last : Option ℕ → ℕ
after_last None = 0
after_last (Some last) = last + 1

-- round robin: the least eligible number above the last pick, else the least eligible number, else none
abbrev pub IsPick : (ℕ → Type 0) → Option ℕ → Option ℕ → Type 0
IsPick eligible last None = (v : ℕ) → eligible v → ⊥
IsPick eligible last (Some v) = IsLeast eligible (after_last last) v
    ⊎ (((w : ℕ) → eligible w → after_last last ≤ w → ⊥) × IsLeast eligible 0 v)

-- the slot has an owner, and the owner is runnable
abbrev pub owner_runs : Option ℕ → List Bool → Bool
owner_runs None runnable = false
owner_runs (Some v) runnable = has_vcpu runnable v

-- whom the core runs from the place on: the slot's owner if runnable, otherwise the second level's pick
pub record IsChoice (plan : PlanView) (c place : ℕ) (runnable : List Bool)
    (last ran : Option ℕ) : Type 0 where
  pub slot : owner_runs (owner_at plan.rows c place) runnable ≡ true → ran ≡ owner_at plan.rows c place
  pub shared : owner_runs (owner_at plan.rows c place) runnable ≡ false
      → IsPick (IsEligible plan c place runnable) last ran

-- somebody ran who isn't the owner
abbrev pub runs_other : Option ℕ → Option ℕ → Bool
runs_other owner None = false
runs_other owner (Some v) = not (is_cell_of v owner)

-- the stint is shared: it ran a vCPU other than the owner of its first tick, by the plan that it used
abbrev pub is_shared : CourseView → ℕ → Stint → Bool
is_shared course c s = runs_other (owner_at (plan_after course s.used).rows c (s.from % ROUND)) s.ran

-- the last shared pick after one more stint
abbrev pub last_after : CourseView → ℕ → Option ℕ → Stint → Option ℕ
last_after course c last s = if is_shared course c s then s.ran else last

-- the core's last shared pick: whom it ran in the latest of the stints that are shared
abbrev pub last_shared : CourseView → ℕ → List Stint → Option ℕ
last_shared course c stints = fold (last_after course c) None stints

-- the end of the span in the stint's round, or the lag's end where that comes first
abbrev pub slot_end : CourseView → ℕ → ℕ → ℕ
slot_end course from span_end = min (from - from % ROUND + span_end) (from + course.lag)

-- a shared stint ends with the quantum at the latest
abbrev pub stint_end : CourseView → ℕ → ℕ → Bool → ℕ
stint_end course from span_end shared = if shared
    then min (slot_end course from span_end) (from + course.quantum)
    else slot_end course from span_end

-- the stint is the core's next after the earlier ones: it runs whom the rules choose, and ends where they say
pub record IsDispatch (course : CourseView) (c : ℕ) (earlier : List Stint) (s : Stint) : Type 0 where
  pub choice : IsChoice (plan_after course s.used) c (s.from % ROUND) (runnable_after course s.seen)
      (last_shared course c earlier) s.ran
  pub span_end : ℕ
  pub span : IsSpanEnd (plan_after course s.used) c (s.from % ROUND) span_end
  pub end : s.end ≡ stint_end course s.from span_end (is_shared course c s)

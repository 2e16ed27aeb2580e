-- The stints and entries of a run are in the ranges of their lines.
use Rattle.std.proofs.Common.{ap, ◌∙◌, ◌≡◌, ℕ, ◌+◌, ◌*◌, ◌/◌, ◌%◌, ◌<◌, ◌≤◌, ◌^◌, length, take, slice_get, Some, arith}
use Rattle.std.specs.Prelude.{slice_index}
use Rattle.std.proofs.lemmas.Option.{slice_get-get_or, slice_get_within}
use Rattle.tab_core.specs.declared.TheConstants.{MAX_CORES, MAX_ROUNDS, ROUND}
use Rattle.tab_core.specs.declared.entry.Entry.{Entry}
use Rattle.tab_core.specs.declared.host.Host.{Host}
use Rattle.tab_core.specs.declared.stint.Stint.{Stint}
use Rattle.table_form.specs.Running.Courses.{CourseView, IsCourse, no_plan, plan_after}
use Rattle.table_form.specs.Running.Invariant.{StateInvariant}
use Rattle.table_form.specs.Running.State.{CoreState, IsCore, State}
use Rattle.table_form.specs.Tables.Plans.{IsPlan, PlanView}
use Rattle.table_form.proofs.TaskLemmas.{task_within}
use Rattle.plan_text.proofs.HomeLemmas.{as_many_homes}
use Rattle.run_promises.proofs.TogetherLemmas.{Stands, owns, fills, stint_stands}
use Rattle.view_laws.specs.ShownRuns.{IsHostWithCourse}
use Rattle.view_laws.proofs.RunLed.{IsFitStint}

-- whoever is at a place of a plan is one of its vCPUs
stands_within : (plan : PlanView) (c place v : ℕ) → IsPlan plan → Stands plan c place v → v < length plan.tasks
stands_within plan c place v keeps (owns is) = task_within plan.tasks v (keeps.owned v place c is)
stands_within plan c place v keeps (fills sharer) =
    let low = slice_get_within plan.homes v (Some c) sharer.home in
    let many = as_many_homes plan.tasks plan.homes plan.rows keeps.housed in
    omega arith

-- at a place of any plan of a course he is one of the host's
stands_low : (course : CourseView) (n c place v : ℕ) → IsCourse course → n ≤ length course.ticks
    → Stands (plan_after course n) c place v → v < length (plan_after course 0).tasks
stands_low course n c place v ok few stands =
    let of_n = plan_there course n ok few in
    let of_first = plan_there course 0 ok (omega arith) in
    let low = stands_within (plan_after course n) c place v
    (ok.plans_kept (slice_index course.numbers n) (plan_after course n) of_n) stands in
    let same = ok.form.same_vcpus (slice_index course.numbers n) (slice_index course.numbers 0)
    (plan_after course n) (plan_after course 0) of_n of_first in
    omega arith
  where
    plan_there : (course : CourseView) (k : ℕ) → IsCourse course → k ≤ length course.ticks
        → slice_get course.plans (slice_index course.numbers k) ≡ Some (plan_after course k)
    plan_there course k ok few = slice_get-get_or course.plans (slice_index course.numbers k) no_plan
        (ok.form.planned k few)

-- a product of few rounds is small
round_end : (r rounds : ℕ) → r < rounds → rounds ≤ MAX_ROUNDS → (r + 1) * ROUND < 2 ^ 32
round_end r rounds low few = omega arith

-- a stint of a run
pub fit_stint : (course : CourseView) (rounds : ℕ) (state : State) (c k : ℕ) (core : CoreState) (s : Stint)
    → IsCourse course → rounds ≤ MAX_ROUNDS → StateInvariant course rounds state → IsCore state c core
    → slice_get core.stints k ≡ Some s → IsFitStint (length (plan_after course 0).tasks) c s
fit_stint course rounds state c k core s ok few kept at is =
    let own = kept.cores c core at in
    let line = own.timeline.each k s is in
    let in_cores = slice_get_within state.cores c core at in
    let size = kept.size in
    let few_cores = ok.form.outline.few_cores in
    let entered = slice_get_within core.entries (s.from / ROUND) line.entry line.entered in
    let few_entries = own.entries.few in
    let in_round = line.in_round in
    let end = round_end (s.from / ROUND) rounds (omega arith) few in
    let used = kept.decided_posted (s.from / ROUND) s.used ((kept.table.cores c core at).stints k s is) in
    let posted = kept.posted_most in
    let few_events = ok.form.outline.few_events in
    let of_stint = own.stints.each k s is in
    let seen = of_stint.seen_posted in
    let some = line.some_ticks in
    record {
      core = omega arith;
      some = some;
      end = omega arith;
      used = omega arith;
      seen = omega arith;
      ran = λ v ran. stands_low course s.used c (s.from % ROUND) v ok (omega arith)
          (stint_stands course c (take k core.stints) s s.from v of_stint.dispatch (omega arith)
          (omega arith) ran).1;
    }

-- an entry of a run has its round's number and a count of events
pub record IsFitEntry (c : ℕ) (e : Entry) : Type 0 where
  pub core : c < MAX_CORES
  pub round : e.round < 2 ^ 32
  pub used : e.used < 2 ^ 32

-- an entry of a run
pub fit_entry : (course : CourseView) (rounds : ℕ) (state : State) (c k : ℕ) (core : CoreState) (e : Entry)
    → IsCourse course → rounds ≤ MAX_ROUNDS → StateInvariant course rounds state → IsCore state c core
    → slice_get core.entries k ≡ Some e → IsFitEntry c e
fit_entry course rounds state c k core e ok few kept at is =
    let own = kept.cores c core at in
    let in_cores = slice_get_within state.cores c core at in
    let size = kept.size in
    let few_cores = ok.form.outline.few_cores in
    let within = slice_get_within core.entries k e is in
    let few_entries = own.entries.few in
    let round = own.timeline.numbered k e is in
    let used = kept.decided_posted k e.used ((kept.table.cores c core at).entries k e is) in
    let posted = kept.posted_most in
    let few_events = ok.form.outline.few_events in
    record { core = omega arith; round = omega arith; used = omega arith }

-- the plans of a host's course have its vCPUs
pub vcpus_of_course : (host : Host) (course : CourseView) → IsHostWithCourse host course
    → length (plan_after course 0).tasks ≡ length host.vcpus
vcpus_of_course host course own =
    let first = own.course_is.after 0 (omega arith) in
    ap (λ (p : PlanView). length p.tasks) first.shows.plan ∙ first.is.planned.layout.is_start.tasks_are.as_many

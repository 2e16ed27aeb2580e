-- The course that a script makes of a host is one, since what is known after each count is.
use Rattle.std.proofs.Common.{◌≡◌, ℕ, ◌+◌, ◌<◌, ◌≤◌, Bool, List, [], length, get_or, inl, inr, ap, sym, ◌∙◌, arith}
use Rattle.std.proofs.lemmas.Bool.{cases_lt}
use Rattle.std.proofs.lemmas.List.{ext_get_or, length-map}
use Rattle.tab_core.specs.declared.host.Host.{Host}
use Rattle.table_form.specs.Running.Courses.{CourseView, IsCourseForm, no_plan, plan_after, plan_number_after, runnable_after}
use Rattle.table_form.specs.Tables.Plans.{PlanView}
use Rattle.script_doc.specs.declared.event.Event.{Event}
use Rattle.plan_book.specs.Courses.{IsCourseOf}
use Rattle.plan_book.proofs.OneState.{known_unique}

-- a course of a script for a host, which keeps the form of a course
pub record IsFormedCourseOf (host : Host) (events : List Event) (course : CourseView) : Type 0 where
  pub is : IsCourseOf host events course
  pub form : IsCourseForm course

-- what two courses have in common after a count
record AreAlikeAfter (a b : CourseView) (n : ℕ) : Type 0 where
  pub number : plan_number_after a n ≡ plan_number_after b n
  pub plan : plan_after a n ≡ plan_after b n
  pub runnable : runnable_after a n ≡ runnable_after b n

-- the course has as many ticks as the script has events
count_of : (host : Host) (events : List Event) (a : CourseView) → IsFormedCourseOf host events a
    → length a.ticks ≡ length events
count_of host events a of_a =
    ap length of_a.is.ticks ∙ length-map events (λ (event : Event). event.tick)

-- two courses show the one state that is known then
alike : (host : Host) (events : List Event) (a b : CourseView) (n : ℕ) → IsFormedCourseOf host events a
    → IsFormedCourseOf host events b → n ≤ length events → AreAlikeAfter a b n
alike host events a b n of_a of_b le =
    let in_a = of_a.is.after n le in
    let in_b = of_b.is.after n le in
    let known = known_unique host events n in_a.known in_b.known in_a.is in_b.is in
    record {
      number = in_a.shows.number ∙ ap (λ k. k.number) known ∙ sym in_b.shows.number;
      plan = in_a.shows.plan ∙ ap (λ k. k.plan) known ∙ sym in_b.shows.plan;
      runnable = in_a.shows.runnable ∙ ap (λ k. k.runnable) known ∙ sym in_b.shows.runnable;
    }

-- the one has no more plans than the other, since each plan is that of a count
no_more_plans : (host : Host) (events : List Event) (a b : CourseView) → IsFormedCourseOf host events a
    → IsFormedCourseOf host events b → length b.plans < length a.plans → ⊥
no_more_plans host events a b of_a of_b more =
    let used = of_a.form.all_used (length b.plans) more in
    let in_a = count_of host events a of_a in
    let in_b = count_of host events b of_b in
    let same = (alike host events a b used.0 of_a of_b (omega (arith, used.1))).number in
    let within = of_b.form.planned used.0 (omega (arith, used.1)) in
    omega (arith, used.2)

-- two courses of one script have as many plans
as_many_plans : (host : Host) (events : List Event) (a b : CourseView) → IsFormedCourseOf host events a
    → IsFormedCourseOf host events b → length a.plans ≡ length b.plans
as_many_plans host events a b of_a of_b = elim (cases_lt (length b.plans) (length a.plans)) [
  | inl more ↦ absurd (no_more_plans host events a b of_a of_b more)
  | inr few ↦ elim (cases_lt (length a.plans) (length b.plans)) [
    | inl fewer ↦ absurd (no_more_plans host events b a of_b of_a fewer)
    | inr many ↦ omega arith
  ]
]

-- two courses of one script have the same plans
same_plans : (host : Host) (events : List Event) (a b : CourseView) → IsFormedCourseOf host events a
    → IsFormedCourseOf host events b → a.plans ≡ b.plans
same_plans host events a b of_a of_b =
    ext_get_or no_plan a.plans b.plans (as_many_plans host events a b of_a of_b) (λ k lt.
    let used = of_a.form.all_used k lt in
    let in_a = count_of host events a of_a in
    let both = alike host events a b used.0 of_a of_b (omega (arith, used.1)) in
    ap (λ n. get_or a.plans n no_plan) (sym used.2) ∙ both.plan
    ∙ ap (λ n. get_or b.plans n no_plan) (sym both.number ∙ used.2))

-- a course by its parts, to compare two
abbrev course_with : ℕ → ℕ → ℕ → List ℕ → List PlanView → List ℕ → List (List Bool) → CourseView
course_with cores lag quantum ticks plans numbers runnable = record {
  cores = cores;
  lag = lag;
  quantum = quantum;
  ticks = ticks;
  plans = plans;
  numbers = numbers;
  runnable = runnable;
}

-- the course of a script is one, and so is what runs on it
pub one_course : (host : Host) (events : List Event) (a b : CourseView) → IsFormedCourseOf host events a
    → IsFormedCourseOf host events b → a ≡ b
one_course host events a b of_a of_b =
    let in_a = count_of host events a of_a in
    let in_b = count_of host events b of_b in
    let cores : a.cores ≡ b.cores = of_a.is.cores ∙ sym of_b.is.cores in
    let lag : a.lag ≡ b.lag = of_a.is.lag ∙ sym of_b.is.lag in
    let quantum : a.quantum ≡ b.quantum = of_a.is.quantum ∙ sym of_b.is.quantum in
    let ticks : a.ticks ≡ b.ticks = of_a.is.ticks ∙ sym of_b.is.ticks in
    let plans = same_plans host events a b of_a of_b in
    let numbered : length a.numbers ≡ length b.numbers =
    of_a.form.numbered ∙ ap (λ n. n + 1) (in_a ∙ sym in_b) ∙ sym of_b.form.numbered in
    let numbers : a.numbers ≡ b.numbers = ext_get_or 0 a.numbers b.numbers numbered (λ k lt.
    (alike host events a b k of_a of_b (omega (arith, lt, in_a, of_a.form.numbered))).number) in
    let sized : length a.runnable ≡ length b.runnable =
    of_a.form.outline.runnables ∙ ap (λ n. n + 1) (in_a ∙ sym in_b) ∙ sym of_b.form.outline.runnables in
    let runnable : a.runnable ≡ b.runnable = ext_get_or [] a.runnable b.runnable sized (λ k lt.
    (alike host events a b k of_a of_b (omega (arith, lt, in_a, of_a.form.outline.runnables))).runnable) in
    let same : course_with a.cores a.lag a.quantum a.ticks a.plans a.numbers a.runnable
    ≡ course_with b.cores b.lag b.quantum b.ticks b.plans b.numbers b.runnable = cc in
    same

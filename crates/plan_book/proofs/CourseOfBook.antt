-- What was made after all events is a course, and the book of the host and the script.
use Rattle.std.proofs.Common.{◌≡◌, ℕ, zero, suc, ◌<◌, ◌≤◌, Bool, List, [], ◌∷◌, length, get_or, map, Some, refl, ap, subst, sym, ◌∙◌, arith}
use Rattle.std.proofs.lemmas.List.{length-map}
use Rattle.std.proofs.lemmas.Option.{slice_get_within}
use Rattle.std.specs.Prelude.{slice_get, slice_index}
use Rattle.tab_core.specs.declared.TheConstants.{MAX_CHANGES, MAX_EVENTS, MAX_ROUNDS}
use Rattle.tab_core.specs.declared.host.Host.{Host}
use Rattle.tab_core.proofs.Lists.{same}
use Rattle.table_form.specs.Running.CourseViews.{course_view}
use Rattle.table_form.specs.Running.Courses.{CourseView, FitsRounds, IsCourseForm, no_plan, plan_after}
use Rattle.table_form.specs.Tables.Plans.{IsPlanFor, PlanView}
use Rattle.table_form.specs.Tables.Views.{plan_view}
use Rattle.table_form.specs.declared.plan.Plan.{Plan}
use Rattle.script_doc.specs.Script.{AreInRun, NeverFall, changes_in}
use Rattle.script_doc.specs.declared.event.Event.{Event}
use Rattle.plan_book.specs.After.{IsKnownAfter}
use Rattle.plan_book.specs.Books.{BookView, IsBookOf, book_view}
use Rattle.plan_book.specs.Courses.{IsCourseOf, Shows, ShowsAfter, ticks_of}
use Rattle.plan_book.specs.Inside.Making.{BookInvariant, IsRecorded, course_of, known_of}
use Rattle.plan_book.specs.States.{BookState}
use Rattle.plan_book.specs.declared.book_so_far.BookSoFar.{BookSoFar}
use Rattle.plan_book.proofs.ListsByIndex.{index_is, index_or_is}
use Rattle.plan_book.proofs.SameShape.{few_outcomes, known_within, same_shape}
use Rattle.plan_book.proofs.OneState.{known_unique}

-- reads a course's tick as the event's
tick_is : (events : List Event) (i : ℕ) (d : Event) → i < length events
    → slice_index (ticks_of events) i ≡ (get_or events i d).tick
tick_is [] i d lt = absurd (omega arith)
tick_is (event ∷ events) zero d lt = refl
tick_is (event ∷ events) (suc i) d lt = tick_is events i d (omega arith)

-- some event, where std's reading by index asks for a default
event_at : (events : List Event) (i : ℕ) → i < length events → Event
event_at [] i lt = absurd (omega arith)
event_at (event ∷ events) zero lt = event
event_at (event ∷ events) (suc i) lt = event_at events i (omega arith)

-- a course asks that the ticks never fall, which the script's type keeps
pub ticks_rise : (events : List Event) → NeverFall events → (i : ℕ) → suc i < length events
    → slice_index (ticks_of events) i ≤ slice_index (ticks_of events) (suc i)
ticks_rise events order i lt =
    let d = event_at events i (omega arith) in
    let le = order i (suc i) d (omega arith) lt in
    let first = tick_is events i d (omega arith) in
    let second = tick_is events (suc i) d lt in
    omega arith

-- the plan of a number that is in the list is for the host's cores and vCPUs
record IsPlanOf (host : Host) (plan : PlanView) : Type 0 where
  pub rows : length plan.rows ≡ host.cores
  pub tasks : length plan.tasks ≡ length host.vcpus

-- a plan recorded at some count has the host's cores and vCPUs, since changes keep both
plan_of_recorded : (host : Host) (events : List Event) (plans : List Plan) (numbers : List ℕ)
    (runnable : List (List Bool)) (i : ℕ) → IsRecorded host events plans numbers runnable i →
    (k : ℕ) (plan : PlanView) → slice_get numbers i ≡ Some k
    → slice_get (map plan_view plans) k ≡ Some plan → IsPlanOf host plan
plan_of_recorded host events plans numbers runnable i kept k plan number at =
    let shape = same_shape host events i kept.known kept.is in
    let here = same (slice_get numbers i) kept.known.number k kept.number number in
    let plan_is = same (slice_get (map plan_view plans) k) kept.known.plan plan
    (subst (λ j. slice_get (map plan_view plans) j ≡ Some kept.known.plan) here kept.plan)
    at in
    subst (IsPlanOf host) plan_is
    (record { rows = kept.fits.rows ∙ shape.cores; tasks = kept.fits.vcpus ∙ shape.vcpus })

-- each plan of the list is at some count, so each has them
plan_is_of : (host : Host) (events : List Event) (so_far : BookSoFar) (numbers : List ℕ)
    (runnable : List (List Bool)) → BookInvariant host events (length events) so_far numbers runnable →
    (k : ℕ) (plan : PlanView) → slice_get (map plan_view so_far.plans.items) k ≡ Some plan
    → IsPlanOf host plan
plan_is_of host events so_far numbers runnable made k plan at =
    let lt : k < length so_far.plans.items =
    (let within = slice_get_within (map plan_view so_far.plans.items) k plan at in
    let size = length-map so_far.plans.items plan_view in
    omega arith) in
    let used = made.used k lt in
    plan_of_recorded host events so_far.plans.items numbers runnable used.0
    (made.kept used.0 used.1) k plan used.2 at

-- the parts fit together
pub form_of : (host : Host) (events : List Event) (so_far : BookSoFar) (numbers : List ℕ)
    (runnable : List (List Bool)) → BookInvariant host events (length events) so_far numbers runnable
    → NeverFall events → length events ≤ MAX_EVENTS
    → IsCourseForm (course_of host events so_far.plans.items numbers runnable)
form_of host events so_far numbers runnable made order few =
    let count = length-map events (λ (event : Event). event.tick) in
    let plans = length-map so_far.plans.items plan_view in
    record {
      outline = record {
        rising = λ i lt. ticks_rise events order i (omega arith);
        runnables = omega (arith, made.runnables);
        some_core = host.some_core;
        few_cores = host.few_cores;
        some_lag = host.some_lag;
        small_lag = host.lag_in_round;
        some_quantum = host.some_quantum;
        small_quantum = host.quantum_in_round;
        few_events = omega (arith, few);
      };
      numbered = omega (arith, made.numbered);
      planned = λ n le.
          let kept = made.kept n (omega arith) in
          let within = slice_get_within (map plan_view so_far.plans.items) kept.known.number
          kept.known.plan kept.plan in
          let number = index_is numbers n kept.known.number kept.number in
          omega arith;
      all_used = λ k lt.
          let used = made.used k (omega arith) in
          (used.0, (let le = used.1 in omega arith), index_is numbers used.0 k used.2);
      in_rows = λ k plan at. (plan_is_of host events so_far numbers runnable made k plan at).rows;
      same_vcpus =
          λ j k a b at_j at_k. (plan_is_of host events so_far numbers runnable made j a at_j).tasks
          ∙ sym (plan_is_of host events so_far numbers runnable made k b at_k).tasks;
    }

-- it shows what was recorded at each count
shows : (host : Host) (events : List Event) (so_far : BookSoFar) (numbers : List ℕ)
    (runnable : List (List Bool)) → BookInvariant host events (length events) so_far numbers runnable
    → (n : ℕ) → n ≤ length events
    → ShowsAfter host events (course_of host events so_far.plans.items numbers runnable) n
shows host events so_far numbers runnable made n le =
    let kept = made.kept n le in
    let number = index_is numbers n kept.known.number kept.number in
    record {
      known = kept.known;
      is = kept.is;
      shows = record {
        plan = index_or_is (map plan_view so_far.plans.items) (slice_index numbers n) kept.known.plan no_plan
            (subst (λ k. slice_get (map plan_view so_far.plans.items) k ≡ Some kept.known.plan)
            (sym number) kept.plan);
        number = number;
        runnable = index_or_is runnable n kept.known.runnable [] kept.set;
      };
    }

-- a course of the host and the script shows whatever is known, since only one state is known
pub shows_known : (host : Host) (events : List Event) (course : CourseView) (n : ℕ) (known : BookState)
    → IsCourseOf host events course → IsKnownAfter host events n known → Shows course n known
shows_known host events course n known of is =
    let after = of.after n (known_within host events n known is) in
    subst (Shows course n) (known_unique host events n after.known known after.is is) after.shows

-- what `make_book` promises of its result
pub is_book : (host : Host) (events : List Event) (so_far : BookSoFar) (numbers : List ℕ)
    (runnable : List (List Bool)) → BookInvariant host events (length events) so_far numbers runnable
    → IsBookOf host events
    (book_view (course_of host events so_far.plans.items numbers runnable) so_far.outcomes.items)
is_book host events so_far numbers runnable made = record {
  course = record {
    cores = refl;
    lag = refl;
    quantum = refl;
    ticks = refl;
    after = shows host events so_far numbers runnable made;
  };
  outcomes = λ known is. ap (λ (k : BookState). k.outcomes)
      (known_unique host events (length events) (known_of so_far) known made.known is);
}

-- the plan of each known state is one for its host
pub fits_known : (host : Host) (events : List Event) (so_far : BookSoFar) (numbers : List ℕ)
    (runnable : List (List Bool)) → BookInvariant host events (length events) so_far numbers runnable
    → (n : ℕ) (known : BookState) → IsKnownAfter host events n known → IsPlanFor known.host known.plan
fits_known host events so_far numbers runnable made n known is =
    let kept = made.kept n (known_within host events n known is) in
    subst (λ (k : BookState). IsPlanFor k.host k.plan)
    (known_unique host events n kept.known known kept.is is) kept.fits

-- each plan of the course has as many vCPUs as the host, which the machine's steps rely on
pub count_of_vcpus : (host : Host) (events : List Event) (so_far : BookSoFar) (numbers : List ℕ)
    (runnable : List (List Bool)) → BookInvariant host events (length events) so_far numbers runnable
    → (n : ℕ) → n ≤ length events
    → length (plan_after (course_of host events so_far.plans.items numbers runnable) n).tasks
    ≡ length host.vcpus
count_of_vcpus host events so_far numbers runnable made n le =
    let here = shows host events so_far numbers runnable made n le in
    let same = same_shape host events n here.known here.is in
    let fits = fits_known host events so_far numbers runnable made n here.known here.is in
    ap (λ (p : PlanView). length p.tasks) here.shows.plan ∙ fits.vcpus ∙ same.vcpus

-- the run has each event
pub fits_rounds : (host : Host) (events : List Event) (plans : List Plan) (numbers : List ℕ)
    (runnable : List (List Bool)) (rounds : ℕ) → 1 ≤ rounds → rounds ≤ MAX_ROUNDS
    → AreInRun rounds events → FitsRounds (course_of host events plans numbers runnable) rounds
fits_rounds host events plans numbers runnable rounds some few in_run = record {
  some_round = some;
  few_rounds = few;
  in_run = λ i lt.
      let within : i < length events =
      (let count = length-map events (λ (event : Event). event.tick) in omega arith) in
      let d = event_at events i within in
      let is = tick_is events i d within in
      let early = in_run i d within in
      omega arith;
}

-- there are few outcomes
pub outcomes_few : (host : Host) (events : List Event) (so_far : BookSoFar) (numbers : List ℕ)
    (runnable : List (List Bool)) → BookInvariant host events (length events) so_far numbers runnable
    → changes_in events ≤ MAX_CHANGES → length so_far.outcomes.items ≤ MAX_CHANGES
outcomes_few host events so_far numbers runnable made few =
    let counts = few_outcomes host events (length events) (known_of so_far) made.known in
    let many = counts.0 in
    omega (arith, few)

-- the loop has come to the end of the script
pub invariant_at_end : (host : Host) (events script : List Event) (n : ℕ) (so_far : BookSoFar)
    (numbers : List ℕ) (runnable : List (List Bool)) → BookInvariant host script n so_far numbers runnable
    → events ≡ script → n ≤ length events → length events ≤ n
    → BookInvariant host script (length script) so_far numbers runnable
invariant_at_end host events script n so_far numbers runnable made same most least =
    let end : n ≡ length script = (let size = ap length same in omega arith) in
    subst (λ k. BookInvariant host script k so_far numbers runnable) end made

-- the book is of that course
pub book_is : (host : Host) (events script : List Event) (so_far : BookSoFar) (ticks numbers : List ℕ)
    (runnable : List (List Bool)) (course : CourseView) (book : BookView) → events ≡ script
    → ticks ≡ ticks_of events
    → course ≡ course_view host.cores host.lag host.quantum ticks so_far.plans.items numbers
    runnable → book ≡ book_view course so_far.outcomes.items
    → book ≡ book_view (course_of host script so_far.plans.items numbers runnable) so_far.outcomes.items
book_is host events script so_far ticks numbers runnable course book same ticks_are course_is is =
    is ∙ ap (λ (c : CourseView). book_view c so_far.outcomes.items)
    (course_is
    ∙ ap (λ (ts : List ℕ). course_view host.cores host.lag host.quantum ts so_far.plans.items
    numbers runnable) (ticks_are ∙ ap ticks_of same))

-- The lists of a book grow by one count with each event.
use Rattle.std.proofs.Common.{◌≡◌, ◌⊎◌, inl, inr, ℕ, suc, ◌+◌, ◌-◌, ◌^◌, ◌<◌, ◌≤◌, Bool, List, [], ◌∷◌, ◌++◌, length, length-append, get_or, map, Some, refl, ap, subst, sym, ◌∙◌, arith}
use Rattle.std.proofs.lemmas.Bool.{cases_lt}
use Rattle.std.proofs.lemmas.List.{length-map, map-append}
use Rattle.std.proofs.lemmas.Option.{slice_get-get_or}
use Rattle.std.specs.Prelude.{slice_get}
use Rattle.tab_core.specs.declared.TheConstants.{MAX_CHANGES}
use Rattle.tab_core.specs.declared.host.Host.{Host}
use Rattle.tab_core.proofs.Lists.{push_old, push_new, there}
use Rattle.table_form.specs.Running.Courses.{no_plan}
use Rattle.table_form.specs.Tables.Plans.{IsPlanFor, PlanView}
use Rattle.table_form.specs.Tables.Views.{plan_view}
use Rattle.table_form.specs.declared.plan.Plan.{Plan}
use Rattle.script_doc.specs.Events.{IsActWithin}
use Rattle.script_doc.specs.Script.{AreWithin, changes_in}
use Rattle.script_doc.specs.declared.event.Event.{Event}
use Rattle.plan_book.specs.After.{Applies, IsKnownAfter}
use Rattle.plan_book.specs.Inside.Making.{BookInvariant, IsRecorded, KeepsPlans, known_of, plan_of}
use Rattle.plan_book.specs.States.{IsKnownAtFirst}
use Rattle.plan_book.specs.declared.book_so_far.BookSoFar.{BookSoFar}
use Rattle.plan_book.proofs.SameShape.{few_outcomes, same_shape}

-- a plan keeps its number
plan_stays : (plans more : List Plan) (k : ℕ) (view : PlanView) → KeepsPlans plans more
    → slice_get (map plan_view plans) k ≡ Some view → slice_get (map plan_view more) k ≡ Some view
plan_stays plans more k view (inl same) at = rw same at
plan_stays plans more k view (inr (p, pushed)) at =
    ap (λ (ps : List Plan). slice_get (map plan_view ps) k) pushed
    ∙ ap (λ (views : List PlanView). slice_get views k) (map-append plan_view plans (p ∷ []))
    ∙ push_old (map plan_view plans) k (plan_view p) view at

-- the last plan is there
last_there : (plans : List Plan) → 0 < length plans
    → slice_get (map plan_view plans) (length plans - 1) ≡ Some (plan_of plans (length plans - 1))
last_there plans some = there (map plan_view plans) (length plans - 1) no_plan
    (let size = length-map plans plan_view in omega arith)

-- what was recorded at a count stays so, as the lists grow
recorded_longer : (host : Host) (events : List Event) (plans more : List Plan) (numbers : List ℕ)
    (runnable : List (List Bool)) (number : ℕ) (set : List Bool) (k : ℕ) →
    KeepsPlans plans more → IsRecorded host events plans numbers runnable k
    → IsRecorded host events more (numbers ++ number ∷ []) (runnable ++ set ∷ []) k
recorded_longer host events plans more numbers runnable number set k keeps_plans kept = record {
  known = kept.known;
  is = kept.is;
  fits = kept.fits;
  plan = plan_stays plans more kept.known.number kept.known.plan keeps_plans kept.plan;
  number = push_old numbers k number kept.known.number kept.number;
  set = push_old runnable k set kept.known.runnable kept.set;
}

-- what is added is recorded at the new count
recorded_now : (host : Host) (events : List Event) (so_far : BookSoFar) (numbers : List ℕ)
    (runnable : List (List Bool)) (n : ℕ) → IsKnownAfter host events n (known_of so_far)
    → 0 < length so_far.plans.items
    → IsPlanFor so_far.host (known_of so_far).plan → length numbers ≡ n → length runnable ≡ n
    → IsRecorded host events so_far.plans.items (numbers ++ (known_of so_far).number ∷ [])
    (runnable ++ so_far.runnable ∷ []) n
recorded_now host events so_far numbers runnable n is some fits numbered runnables = record {
  known = known_of so_far;
  is = is;
  fits = fits;
  plan = last_there so_far.plans.items some;
  number = ap (λ k. slice_get (numbers ++ (known_of so_far).number ∷ []) k) (sym numbered)
      ∙ push_new numbers (known_of so_far).number;
  set = ap (λ k. slice_get (runnable ++ so_far.runnable ∷ []) k) (sym runnables)
      ∙ push_new runnable so_far.runnable;
}

-- before the first event
pub invariant_first : (host : Host) (events : List Event) (so_far : BookSoFar) (numbers : List ℕ)
    (runnable : List (List Bool)) → IsKnownAtFirst host (known_of so_far)
    → length so_far.plans.items ≡ 1
    → IsPlanFor so_far.host (known_of so_far).plan → numbers ≡ [] ++ (known_of so_far).number ∷ []
    → runnable ≡ [] ++ so_far.runnable ∷ [] → BookInvariant host events 0 so_far numbers runnable
invariant_first host events so_far numbers runnable first one fits numbers_are runnable_are = record {
  known = first;
  some = omega (arith, one);
  fits = fits;
  numbered = ap length numbers_are;
  runnables = ap length runnable_are;
  kept = λ k le.
      let zero_is : k ≡ 0 = omega (arith, le) in
      let new = recorded_now host events so_far [] [] 0 first (omega (arith, one)) fits refl refl in
      rw (zero_is, numbers_are, runnable_are) new;
  used = λ k lt.
      let zero_is : k ≡ 0 = omega (arith, lt, one) in
      let at : slice_get numbers 0 ≡ Some k =
      rw numbers_are (ap Some (let size = one in omega (arith, zero_is, size))) in
      (0, omega arith, at);
}

-- a course asks that each plan is used at some count: the newest is at the newest
used_next : (plans more : List Plan) (numbers : List ℕ) (n : ℕ) → length numbers ≡ n + 1
    → KeepsPlans plans more →
    ((k : ℕ) → k < length plans → (i : ℕ) × (i ≤ n) × (slice_get numbers i ≡ Some k)) →
    (k : ℕ) → k < length more → (i : ℕ) × (i ≤ n + 1)
    × (slice_get (numbers ++ (length more - 1) ∷ []) i ≡ Some k)
used_next plans more numbers n numbered (inl same) used k lt =
    let before = used k (let size = ap length same in omega arith) in
    (before.0, (let le = before.1 in omega arith), push_old numbers before.0 (length more - 1) k before.2)
used_next plans more numbers n numbered (inr (p, pushed)) used k lt = by_size (cases_lt k (length plans))
  where
    by_size : (k < length plans) ⊎ (length plans ≤ k)
        → (i : ℕ) × (i ≤ n + 1) × (slice_get (numbers ++ (length more - 1) ∷ []) i ≡ Some k)
    by_size (inl old) =
        let before = used k old in
        (before.0, (let le = before.1 in omega arith), push_old numbers before.0 (length more - 1) k before.2)
    by_size (inr new) =
        let size = ap length pushed in
        let sum = length-append plans (p ∷ []) in
        let last : length more - 1 ≡ k = omega (arith, new) in (
          n + 1,
          omega arith,
          ap (λ i. slice_get (numbers ++ (length more - 1) ∷ []) i)
              (sym numbered) ∙ push_new numbers (length more - 1) ∙ ap Some last,
        )

-- what is known after one event more
pub known_next : (host : Host) (events : List Event) (n : ℕ) (event : Event) (old new : BookSoFar)
    → IsKnownAfter host events n (known_of old) → n < length events → event ≡ get_or events n event
    → Applies (known_of old) event.act (known_of new) → IsKnownAfter host events (n + 1) (known_of new)
known_next host events n event old new known lt is applies =
    let at : slice_get events n ≡ Some event = slice_get-get_or events n event lt ∙ ap Some (sym is) in
    let next : suc n ≡ n + 1 = omega arith in
    subst (λ k. IsKnownAfter host events k (known_of new)) next (known_of old, event, known, at, applies)

-- after one event more
pub invariant_next : (host : Host) (events : List Event) (n : ℕ) (event : Event) (old new : BookSoFar)
    (numbers numbers' : List ℕ) (runnable runnable' : List (List Bool)) →
    BookInvariant host events n old numbers runnable → n < length events → event ≡ get_or events n event
    → Applies (known_of old) event.act (known_of new)
    → KeepsPlans old.plans.items new.plans.items → IsPlanFor new.host (known_of new).plan
    → numbers' ≡ numbers ++ (known_of new).number ∷ [] → runnable' ≡ runnable ++ new.runnable ∷ []
    → BookInvariant host events (n + 1) new numbers' runnable'
invariant_next host events n event old new numbers numbers' runnable runnable' made lt is applies keeps_plans
    fits numbers_are runnable_are =
    let known = known_next host events n event old new made.known lt is applies in
    let some = some_more old.plans.items new.plans.items keeps_plans made.some in
    record {
      known = known;
      some = some;
      fits = fits;
      numbered = ap length numbers_are ∙ length-append numbers _ ∙ omega (arith, made.numbered);
      runnables = ap length runnable_are ∙ length-append runnable _ ∙ omega (arith, made.runnables);
      kept = λ k le. rw (numbers_are, runnable_are) (kept_all k (cases_lt n k) le known some);
      used = rw numbers_are
          (used_next old.plans.items new.plans.items numbers n made.numbered keeps_plans made.used);
    }
  where
    some_more : (plans more : List Plan) → KeepsPlans plans more → 0 < length plans → 0 < length more
    some_more plans more (inl same) some = (let size = ap length same in omega arith)
    some_more plans more (inr (p, pushed)) some =
        (let size = ap length pushed in let sum = length-append plans (p ∷ []) in omega arith)

    kept_all : (k : ℕ) → (n < k) ⊎ (k ≤ n) → k ≤ n + 1
        → IsKnownAfter host events (n + 1) (known_of new) → 0 < length new.plans.items →
        IsRecorded host events new.plans.items (numbers ++ (known_of new).number ∷ [])
        (runnable ++ new.runnable ∷ []) k
    kept_all k (inr before) le known some =
        recorded_longer host events old.plans.items new.plans.items numbers runnable
        (known_of new).number new.runnable k keeps_plans (made.kept k before)
    kept_all k (inl later) le known some =
        let last : k ≡ n + 1 = omega (arith, later, le) in
        subst (λ j. IsRecorded host events new.plans.items (numbers ++ (known_of new).number ∷ [])
        (runnable ++ new.runnable ∷ []) j) (sym last)
        (recorded_now host events new numbers runnable (n + 1) known some fits made.numbered made.runnables)

-- the next event is of the host's vCPUs
pub next_within : (host : Host) (events : List Event) (n : ℕ) (event : Event) (so_far : BookSoFar)
    (numbers : List ℕ) (runnable : List (List Bool)) → BookInvariant host events n so_far numbers runnable
    → AreWithin (length host.vcpus) events → n < length events → event ≡ get_or events n event
    → IsActWithin (length so_far.host.vcpus) event.act
next_within host events n event so_far numbers runnable made within lt is =
    let shape = same_shape host events n (known_of so_far) made.known in
    let here : IsActWithin (length host.vcpus) (get_or events n event).act = within n event lt in
    subst (λ count. IsActWithin count event.act) (sym shape.vcpus)
    (subst (λ (e : Event). IsActWithin (length host.vcpus) e.act) (sym is) here)

-- there are few plans
pub few_plans : (host : Host) (events : List Event) (n : ℕ) (so_far : BookSoFar)
    → IsKnownAfter host events n (known_of so_far) → changes_in events ≤ MAX_CHANGES
    → length so_far.plans.items < 2 ^ 32
few_plans host events n so_far known few =
    let counts = few_outcomes host events n (known_of so_far) known in
    let number = counts.1 in
    omega (arith, few)

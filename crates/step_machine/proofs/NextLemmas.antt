-- A core of least clock can go on, or an event can be posted.
use Rattle.std.proofs.Common.{◌≡◌, ◌≢◌, ℕ, ◌+◌, ◌*◌, ◌%◌, ◌<◌, ◌≤◌, inl, inr, Bool, true, false, List, [], ◌∷◌, ◌++◌, length, Option, Some, None, refl, ap, sym, ◌∙◌, subst, arith, length-append}
use Rattle.std.specs.Prelude.{slice_get, slice_set, if◌then◌else◌, ◌==◌}
use Rattle.std.proofs.lemmas.Bool.{cases_lt, eqb-true}
use Rattle.tab_core.specs.declared.TheConstants.{MAX_VCPUS, ROUND}
use Rattle.tab_core.specs.declared.stint.Stint.{Stint}
use Rattle.tab_core.specs.declared.entry.Entry.{Entry}
use Rattle.tab_core.proofs.Lists.{element_at, same, there}
use Rattle.table_form.specs.Running.Courses.{FitsRounds, CourseView, IsCourse, no_plan, plan_after, plan_number_after, tick_at}
use Rattle.table_form.specs.Running.State.{State, CoreState, IsCore}
use Rattle.table_form.specs.Running.Phases.{phase_of, phase_unfinished, has_entered, round_of, to_see, to_decide, to_run, at_end}
use Rattle.table_form.specs.Promises.Fresh.{HasUpTo}
use Rattle.table_form.specs.Running.Stints.{IsNextStint, runs}
use Rattle.table_form.specs.Running.Entering.{enters, EntersRound}
use Rattle.table_form.specs.Running.Invariant.{StateInvariant}
use Rattle.table_form.specs.Running.Complete.{IsComplete}
use Rattle.table_form.specs.Running.Next.{IsLeastClock}
use Rattle.step_machine.specs.Next.{IsNextStep}
use Rattle.script_doc.specs.declared.step.Step.TheVariants as steps
use Rattle.table_form.specs.Tables.Serves.{owner_at}
use Rattle.table_form.proofs.TaskLemmas.{task_within}
use Rattle.second_level.proofs.NextStintLemmas.{some_stint}
use Rattle.run_promises.proofs.Lists.{either}
use Rattle.step_machine.proofs.Lists.{set_here}
use Rattle.step_machine.proofs.PhaseLemmas.{deciding, entered_below, entered_to_run, has_seen}
use Rattle.run_promises.proofs.ChoiceLemmas.{stint_bounds}
use Rattle.run_promises.proofs.OneTableLemmas.{entered_counted}
use Rattle.run_promises.proofs.WaitingLemmas.{has_from_next}

-- a core that changes changes the cores
cores_differ : (cores : List CoreState) (c : ℕ) (core changed : CoreState)
    → slice_get cores c ≡ Some core → changed ≢ core → slice_set cores c changed ≢ cores
cores_differ cores c core changed at differs e =
    differs (same (slice_get cores c) changed core
    (subst (λ (xs : List CoreState). slice_get xs c ≡ Some changed) e
    (set_here cores c changed core at)) at)

-- where all have finished an event is posted: each clock is late enough
pub post_at_end : (course : CourseView) (rounds : ℕ) (s : State) (c : ℕ) (core : CoreState)
    → FitsRounds course rounds → IsLeastClock s c core → core.clock ≡ rounds * ROUND
    → phase_of rounds core ≡ at_end → s.posted < length course.ticks →
    IsNextStep course rounds s steps.Post
post_at_end course rounds s c core ends low clock phase due = record {
  c = c;
  core = core;
  lowest = low;
  next = inl (phase, due);
  new = record s { posted = s.posted + 1 };
  moves = record {
    due = due;
    near = λ d other at ne.
        (let le = low.least d other at in let tick = ends.in_run s.posted due in omega arith);
    becomes = refl;
  };
  changes = λ e. (let q = ap (λ (x : State). x.posted) e in omega arith);
}

-- where a core hasn't seen an event that it must have, that event is posted
pub post_for_see : (course : CourseView) (rounds : ℕ) (s : State) (c : ℕ) (core : CoreState)
    → IsCourse course → IsLeastClock s c core → phase_of rounds core ≡ to_see
    → (HasUpTo course s.posted core.clock → ⊥) →
    IsNextStep course rounds s steps.Post
post_for_see course rounds s c core ok low phase lacks =
    let due : s.posted < length course.ticks =
    elim (cases_lt s.posted (length course.ticks))
    [ inl lt ↦ lt | inr le ↦ absurd (lacks (λ i lt d. omega arith)) ] in
    let late : tick_at course s.posted + course.lag ≤ core.clock =
    elim (cases_lt core.clock (tick_at course s.posted + course.lag)) [
      | inl lt ↦ absurd (lacks (has_from_next course ok s.posted core.clock lt))
      | inr le ↦
          le
    ] in
    record {
      c = c;
      core = core;
      lowest = low;
      next = inr (phase, lacks);
      new = record s { posted = s.posted + 1 };
      moves = record {
        due = due;
        near = λ d other at ne.
            (let le = low.least d other at in omega arith);
        becomes = refl;
      };
      changes = λ e. (let q = ap (λ (x : State). x.posted) e in omega arith);
    }

-- for `see_now`: a core that is to see has not
see_cases : (b : Bool) (o : Option ℕ) (e : Bool)
    → (if b then at_end else phase_unfinished o e) ≡ to_see → o ≡ None
see_cases true o e h = absurd cc
see_cases false None e h = refl
see_cases false (Some n) true h = absurd cc
see_cases false (Some n) false h = absurd cc

-- where a core has seen all that it must have, it sees
pub see_now : (course : CourseView) (rounds : ℕ) (s : State) (c : ℕ) (core : CoreState)
    → IsLeastClock s c core → phase_of rounds core ≡ to_see → HasUpTo course s.posted core.clock
    → IsNextStep course rounds s (steps.See c)
see_now course rounds s c core low phase has =
    let changed : CoreState = record core { seen = Some s.posted } in
    record {
      c = c;
      core = core;
      lowest = low;
      next = (refl, phase, has);
      new = record s { cores = slice_set s.cores c changed };
      moves = record { core = core; at = low.at; due = λ e. absurd (cc); has = has; becomes = refl };
      changes = λ e. cores_differ s.cores c core changed low.at
          (λ q.
          let seen = ap (λ (x : CoreState). x.seen) q in
          let none = see_cases (core.clock == rounds * ROUND) core.seen (has_entered core) phase in
          absurd (cc)) (ap (λ (x : State). x.cores) e);
    }

-- what a core has seen
some_seen : (o : Option ℕ) → o ≢ None → (n : ℕ) × (o ≡ Some n)
some_seen None h = absurd (h refl)
some_seen (Some n) h = (n, refl)

-- one more entry makes another core
entries_differ : (core : CoreState) (e : Entry) → enters core e ≢ core
entries_differ core e q =
    let n = ap (λ (x : CoreState). length x.entries) q in
    let m = length-append core.entries (e ∷ []) in
    omega arith

-- a core that is to enter its round enters it, as the first or after another
pub decide_now : (course : CourseView) (rounds : ℕ) (s : State) (c : ℕ) (core : CoreState)
    → StateInvariant course rounds s → IsLeastClock s c core → phase_of rounds core ≡ to_decide
    → IsNextStep course rounds s (steps.Decide c)
decide_now course rounds s c core kept low due =
    let k = kept.cores c core low.at in
    let found = some_seen core.seen (has_seen rounds core (inl due)) in
    let few : length core.entries ≤ round_of core = elim (cases_lt (round_of core) (length core.entries)) [
      | inl more ↦
          let was = entered_below core.entries (round_of core) k.timeline.numbered more in
          let isnt = (deciding rounds core due).not_entered in
          absurd cc
      | inr le ↦ le
    ] in
    let entering : EntersRound rounds c s = record {
      core = core;
      at = low.at;
      seen = found.0;
      has_seen = found.1;
      due = due;
      start = omega (arith, k.timeline.reach);
    } in
    elim (cases_lt (round_of core) (length s.decided)) [
      | inl lt ↦ (let count = element_at s.decided (round_of core) lt in
          let e : Entry = record { round = round_of core; used = count.0; seen = found.0; won = false } in
          record {
            c = c;
            core = core;
            lowest = low;
            next = (refl, due);
            new = record s { cores = slice_set s.cores c (enters core e) };
            moves = inr
                (record {
                  round = entering;
                  used = count.0;
                  count = count.1;
                  becomes = refl;
                });
            changes = λ q. cores_differ s.cores c core (enters core e) low.at
                (entries_differ core e) (ap (λ (x : State). x.cores) q);
          })
      | inr le ↦
          (let e : Entry = record { round = round_of core; used = found.0; seen = found.0; won = true } in
          record {
            c = c;
            core = core;
            lowest = low;
            next = (refl, due);
            new = record s {
              decided = s.decided ++ found.0 ∷ [];
              cores = slice_set s.cores c (enters core e);
            };
            moves = inl
                (record {
                  round = entering;
                  first = omega (arith, k.timeline.reach, entered_counted s.decided core (kept.table.cores c core low.at));
                  becomes = refl;
                });
            changes = λ q. cores_differ s.cores c core (enters core e) low.at
                (entries_differ core e) (ap (λ (x : State). x.cores) q);
          })
    ]

-- one more stint makes another core
stints_differ : (core : CoreState) (st : Stint) → runs core st ≢ core
stints_differ core st q =
    let n = ap (λ (x : CoreState). length x.stints) q in
    let m = length-append core.stints (st ∷ []) in
    omega arith

-- who owns a place of one of the course's plans has a small number, since those plans have few vCPUs
owner_small : (course : CourseView) (n c place v : ℕ) → IsCourse course
    → length (plan_after course 0).tasks ≤ MAX_VCPUS
    → owner_at (plan_after course n).rows c place ≡ Some v → v < MAX_VCPUS
owner_small course n c place v ok few owns =
    let first = plan_number_after course 0 in
    elim (either course.plans (plan_number_after course n) no_plan) [
      | inl at ↦
          let kept = ok.plans_kept (plan_number_after course n) (plan_after course n) at in
          let below = task_within (plan_after course n).tasks v (kept.owned v place c owns) in
          let there = there course.plans first no_plan (ok.form.planned 0 (omega arith)) in
          let alike = ok.form.same_vcpus (plan_number_after course n) first (plan_after course n)
          (plan_after course 0) at there in
          omega arith
      | inr none ↦ absurd (let owner = rw none at owns in cc)
    ]

-- a core that is to run has a next stint, where the course's plans have few vCPUs
pub some_next : (course : CourseView) (rounds : ℕ) (s : State) (c : ℕ) (core : CoreState)
    → IsCourse course → length (plan_after course 0).tasks ≤ MAX_VCPUS → StateInvariant course rounds s
    → IsCore s c core → phase_of rounds core ≡ to_run → (st : Stint) × IsNextStint course rounds c core st
some_next course rounds s c core ok few kept at due =
    let seen = some_seen core.seen (has_seen rounds core (inr due)) in
    let entry = element_at core.entries (round_of core)
    (entered_to_run rounds core (kept.cores c core at).timeline.numbered due) in
    let used = entry.0.used in
    let next = some_stint course c core.stints core.clock seen.0 used
    (λ v owns. owner_small course used c (core.clock % ROUND) v ok few owns) in (
      next.0,
      record {
        due = due;
        has_seen = seen.1 ∙ ap Some (sym next.2);
        entry = entry.0;
        entered = entry.1;
        uses = next.3;
        from = next.1;
        follows = next.4;
      },
    )

-- a core that is to run runs: no clock is below its own
pub run_now : (course : CourseView) (rounds : ℕ) (s : State) (c : ℕ) (core : CoreState) (st : Stint)
    → IsCourse course → IsLeastClock s c core → IsNextStint course rounds c core st
    → IsNextStep course rounds s (steps.Run c)
run_now course rounds s c core st ok low next =
    let bounds = stint_bounds course c core.stints st ok next.follows in
    let from = next.from in
    record {
      c = c;
      core = core;
      lowest = low;
      next = (refl, next.due);
      new = record s { cores = slice_set s.cores c (runs core st) };
      moves = record {
        core = core;
        at = low.at;
        stint = st;
        next = next;
        near = λ d other at ne. (let le = low.least d other at in omega (arith, bounds.2));
        becomes = refl;
      };
      changes = λ q. cores_differ s.cores c core (runs core st) low.at (stints_differ core st)
          (ap (λ (x : State). x.cores) q);
    }

-- where the least clock is at the end all are
pub whole_at_end : (course : CourseView) (rounds : ℕ) (s : State) (c : ℕ) (core : CoreState)
    → StateInvariant course rounds s → IsLeastClock s c core → core.clock ≡ rounds * ROUND
    → s.posted ≡ length course.ticks → IsComplete course rounds s
whole_at_end course rounds s c core kept low clock posted = record {
  clocks = λ d other at.
      (let le = low.least d other at in let most = (kept.cores d other at).clock.in_run in omega arith);
  posted = posted;
}

-- for `clock_at_end`, by the tests that make the phase
finished_cases : (b : Bool) (o : Option ℕ) (e : Bool)
    → (if b then at_end else phase_unfinished o e) ≡ at_end → b ≡ true
finished_cases true o e h = refl
finished_cases false None e h = absurd cc
finished_cases false (Some n) true h = absurd cc
finished_cases false (Some n) false h = absurd cc

-- a core at the end has its clock there
pub clock_at_end : (rounds : ℕ) (core : CoreState) → phase_of rounds core ≡ at_end
    → core.clock ≡ rounds * ROUND
clock_at_end rounds core h = eqb-true _ _
    (finished_cases (core.clock == rounds * ROUND) core.seen (has_entered core) h)

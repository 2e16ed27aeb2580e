-- Each of the four kinds of step keeps the invariant.
use Rattle.std.proofs.Common.{◌≡◌, ℕ, suc, ◌+◌, ◌*◌, ◌/◌, ◌<◌, ◌≤◌, ◌⊎◌, inl, inr, true, false, ◌≢◌, List, [], ◌∷◌, ◌++◌, length, take, Option, Some, refl, ap, sym, subst, ◌∙◌, arith, length-append, length-set}
use Rattle.std.specs.Prelude.{slice_get, slice_set}
use Rattle.std.proofs.lemmas.Bool.{cases_lt}
use Rattle.std.proofs.lemmas.Option.{slice_get_within}
use Rattle.tab_core.proofs.TimelineLemmas.{contiguous_push}
use Rattle.tab_core.specs.Timelines.{HasTimeline}
use Rattle.tab_core.specs.declared.TheConstants.{ROUND}
use Rattle.tab_core.specs.declared.stint.Stint.{Stint}
use Rattle.tab_core.specs.declared.entry.Entry.{Entry}
use Rattle.tab_core.proofs.Lists.{take_push_old, take_push_new, push_old, push_new, push_split, same}
use Rattle.table_form.specs.Running.Courses.{CourseView, IsCourse, tick_at}
use Rattle.table_form.specs.Running.State.{State, CoreState, IsCore}
use Rattle.script_doc.specs.declared.step.Step.{Step}
use Rattle.step_machine.specs.Answers.{Moves}
use Rattle.table_form.specs.Running.Phases.{phase_of, round_of, to_decide}
use Rattle.table_form.specs.Running.Posting.{Posts, Sees}
use Rattle.table_form.specs.Running.Entering.{EntersFirst, EntersAfter, enters}
use Rattle.table_form.specs.Running.Stints.{RunsNextStint, IsNextStint, runs}
use Rattle.table_form.specs.Promises.Fresh.{HasUpTo}
use Rattle.table_form.specs.Running.Invariant.{StintInvariant, SightInvariant, CoreInvariant, StateInvariant}
use Rattle.table_form.specs.Promises.OneTable.{HasOneTable, UsesCounts}
use Rattle.script_doc.specs.declared.step.Step.TheVariants as steps
use Rattle.step_machine.proofs.Lists.{set_split, set_here}
use Rattle.step_machine.proofs.PhaseLemmas.{deciding, running, entered_below}
use Rattle.run_promises.proofs.ChoiceLemmas.{stint_bounds}
use Rattle.run_promises.proofs.OneTableLemmas.{entered_counted}
use Rattle.step_machine.proofs.ChangedCores.{cores_after, won_after}

-- Post

-- a stint keeps what it keeps when more is posted
stint_posted : (course : CourseView) (posted c : ℕ) (earlier : List Stint) (s : Stint)
    → StintInvariant course posted c earlier s → StintInvariant course (posted + 1) c earlier s
stint_posted course posted c earlier s k =
    record { seen_posted = omega (arith, k.seen_posted); fresh = k.fresh; dispatch = k.dispatch }

-- a last sight keeps what it keeps when more is posted
sight_posted : (course : CourseView) (posted : ℕ) (decided : List ℕ) (core : CoreState) (n : ℕ)
    → SightInvariant course posted decided core n → SightInvariant course (posted + 1) decided core n
sight_posted course posted decided core n k =
    record {
      seen_posted = omega (arith, k.seen_posted);
      fresh = k.fresh;
      stints = k.stints;
      counts = k.counts;
    }

-- a core keeps what it keeps when an event is posted that isn't far ahead of its clock
core_posted : (course : CourseView) (rounds posted : ℕ) (decided : List ℕ) (c : ℕ)
    (core : CoreState) → CoreInvariant course rounds posted decided c core
    → tick_at course posted ≤ core.clock + course.lag →
    CoreInvariant course rounds (posted + 1) decided c core
core_posted course rounds posted decided c core k near = record {
  timeline = k.timeline;
  clock = record {
    in_run = k.clock.in_run;
    events = λ i lt. elim (cases_lt i posted)
        [ inl old ↦ k.clock.events i old | inr new ↦ (let e : i ≡ posted = omega arith in rw e near) ];
  };
  entries = record {
    few = k.entries.few;
    seen_posted = λ i e h. omega (arith, k.entries.seen_posted i e h);
  };
  stints = record {
    each = λ i s h. stint_posted course posted c (take i core.stints) s (k.stints.each i s h);
    risen = k.stints.risen;
  };
  sight = λ n h. sight_posted course posted decided core n (k.sight n h);
}

-- Post keeps what is kept
pub posts_keep : (course : CourseView) (rounds : ℕ) (old new : State) → Posts course old new
    → StateInvariant course rounds old → StateInvariant course rounds new
posts_keep course rounds old new p k = subst (λ (s : State). StateInvariant course rounds s) (sym p.becomes) (record {
  size = k.size;
  table = record { cores = k.table.cores; one_winner = k.table.one_winner; rises = k.table.rises };
  cores = λ c core h. core_posted course rounds old.posted old.decided c core (k.cores c core h)
      (p.near c core h (λ e. absurd cc));
  fresh = k.fresh;
  decided_posted = λ r d h. omega (arith, k.decided_posted r d h);
  posted_most = omega (arith, p.due);
  near = k.near;
})

-- See

-- a core keeps what it keeps when it sees the posted count
seen_now : (course : CourseView) (rounds posted : ℕ) (decided : List ℕ) (c : ℕ) (core : CoreState)
    → CoreInvariant course rounds posted decided c core → HasUpTo course posted core.clock →
    ((r d : ℕ) → slice_get decided r ≡ Some d → d ≤ posted)
    → CoreInvariant course rounds posted decided c (record core { seen = Some posted })
seen_now course rounds posted decided c core k has most = record {
  timeline = k.timeline;
  clock = k.clock;
  entries = k.entries;
  stints = k.stints;
  sight = λ n h. (let e : posted ≡ n = same (Some posted) posted n refl h in rw (← e) (record {
    seen_posted = omega arith;
    fresh = record { has = has; none_beyond = k.clock.events };
    stints = λ i s g. (k.stints.each i s g).seen_posted;
    counts = λ r d g le. most r d g;
  }));
}

-- clocks stay near where no clock changes
near_after : (course : CourseView) (s : State) (c : ℕ) (core changed : CoreState) → IsCore s c core
    → changed.clock ≡ core.clock →
    ((d e : ℕ) (x y : CoreState) → IsCore s d x → IsCore s e y → x.clock ≤ y.clock + course.lag) →
    (d e : ℕ) (x y : CoreState) → slice_get (slice_set s.cores c changed) d ≡ Some x
    → slice_get (slice_set s.cores c changed) e ≡ Some y → x.clock ≤ y.clock + course.lag
near_after course s c core changed at clock near = λ d e x y h g.
    cores_after (λ (i : ℕ) (u : CoreState). u.clock ≤ y.clock + course.lag) s.cores c changed
    (λ i u was. cores_after (λ (j : ℕ) (w : CoreState). u.clock ≤ w.clock + course.lag) s.cores c
    changed (λ j w is. near i j u w was is)
    (omega (arith, near i c u core was at, clock)) e y g)
    (cores_after (λ (j : ℕ) (w : CoreState). changed.clock ≤ w.clock + course.lag) s.cores c changed
    (λ j w is. omega (arith, near c j core w at is, clock)) (omega (arith)) e y g) d x h

-- See keeps what is kept
pub sees_keep : (course : CourseView) (rounds c : ℕ) (old new : State)
    → Sees course rounds c old new → StateInvariant course rounds old → StateInvariant course rounds new
sees_keep course rounds c old new p k =
    let changed : CoreState = record p.core { seen = Some old.posted } in
    let uses = k.table.cores c p.core p.at in
    subst (λ (s : State). StateInvariant course rounds s) (sym p.becomes) (record {
      size = length-set old.cores c changed ∙ k.size;
      table = record {
        cores = cores_after (λ (d : ℕ) (x : CoreState). UsesCounts old.decided x) old.cores c changed
            k.table.cores (record { entries = uses.entries; stints = uses.stints });
        one_winner = λ r d h. won_after old.cores c r d p.core changed p.at (λ e g. g) (λ e g w. g)
            (k.table.one_winner r d h);
        rises = k.table.rises;
      };
      cores = cores_after
          (λ (d : ℕ) (x : CoreState). CoreInvariant course rounds old.posted old.decided d x) old.cores c
          changed k.cores
          (seen_now course rounds old.posted old.decided c p.core
          (k.cores c p.core p.at) p.has k.decided_posted);
      fresh = k.fresh;
      decided_posted = k.decided_posted;
      posted_most = k.posted_most;
      near = near_after course old c p.core changed p.at refl k.near;
    })

-- Decide

-- a core keeps what it keeps when a further round gets a count, which it has not reached
core_grown : (course : CourseView) (rounds posted : ℕ) (decided more : List ℕ) (c : ℕ)
    (core : CoreState) → CoreInvariant course rounds posted decided c core
    → length core.entries ≤ length decided →
    ((r d : ℕ) → slice_get more r ≡ Some d → (slice_get decided r ≡ Some d) ⊎ (length decided ≤ r))
    → CoreInvariant course rounds posted more c core
core_grown course rounds posted decided more c core k counted back = record {
  timeline = k.timeline;
  clock = k.clock;
  entries = k.entries;
  stints = k.stints;
  sight = λ n h. (let was = k.sight n h in record {
    seen_posted = was.seen_posted;
    fresh = was.fresh;
    stints = was.stints;
    counts = λ r d g le. elim (back r d g) [
      | inl old ↦ was.counts r d old le
      | inr new ↦
          absurd (omega (arith, k.timeline.reach, counted))
    ];
  });
}

-- a core uses the counts as before when a further round gets one
uses_grown : (decided more : List ℕ) (core : CoreState) → UsesCounts decided core
    → ((r d : ℕ) → slice_get decided r ≡ Some d → slice_get more r ≡ Some d) → UsesCounts more core
uses_grown decided more core uses stays = record {
  entries = λ r e h. stays r e.used (uses.entries r e h);
  stints = λ k s h. stays (s.from / ROUND) s.used (uses.stints k s h);
}

-- a core keeps its timeline when it enters the next round at that round's start
timeline_entered : (core : CoreState) (e : Entry) → HasTimeline core.clock core.entries core.stints
    → e.round ≡ length core.entries → core.clock ≡ length core.entries * ROUND
    → HasTimeline core.clock (core.entries ++ e ∷ []) core.stints
timeline_entered core e t round clock =
    let grown : length (core.entries ++ e ∷ []) ≡ length core.entries + 1 =
    length-append core.entries (e ∷ []) in
    record {
      contiguous = t.contiguous;
      numbered = λ i x h. elim (push_split core.entries i e x h) [
        | inl old ↦ t.numbered i x old
        | inr new ↦ (let same_round = ap (λ (y : Entry). y.round) new.1 in omega (arith, new.0))
      ];
      reach = omega arith;
      ahead = omega arith;
      each = λ k s h. (let was = t.each k s h in record {
        some_ticks = was.some_ticks;
        in_round = was.in_round;
        entry = was.entry;
        entered = push_old core.entries (s.from / ROUND) e was.entry was.entered;
        used = was.used;
      });
    }

-- a core keeps all else when it runs its next stint
core_entered : (course : CourseView) (rounds posted : ℕ) (decided : List ℕ) (c : ℕ)
    (core : CoreState) (e : Entry) → CoreInvariant course rounds posted decided c core →
    e.round ≡ length core.entries → core.clock ≡ length core.entries * ROUND
    → core.clock ≢ rounds * ROUND → e.seen ≤ posted →
    CoreInvariant course rounds posted decided c (enters core e)
core_entered course rounds posted decided c core e k round clock unfinished posted_most =
    let grown : length (core.entries ++ e ∷ []) ≡ length core.entries + 1 =
    length-append core.entries (e ∷ []) in
    let low : core.clock < rounds * ROUND = omega (arith, k.clock.in_run) in
    record {
      timeline = timeline_entered core e k.timeline round clock;
      clock = k.clock;
      entries = record {
        few = omega arith;
        seen_posted = λ i x h. elim (push_split core.entries i e x h) [
          | inl old ↦ k.entries.seen_posted i x old
          | inr new ↦ (let same_seen = ap (λ (y : Entry). y.seen) new.1 in omega arith)
        ];
      };
      stints = k.stints;
      sight = λ n h. (let was = k.sight n h in record {
        seen_posted = was.seen_posted;
        fresh = was.fresh;
        stints = was.stints;
        counts = was.counts;
      });
    }

-- a core that enters its round by the round's count uses the counts
uses_entered : (decided : List ℕ) (core : CoreState) (e : Entry) → UsesCounts decided core
    → slice_get decided (length core.entries) ≡ Some e.used → UsesCounts decided (enters core e)
uses_entered decided core e uses used = record {
  entries = λ i x h. elim (push_split core.entries i e x h) [
    | inl old ↦ uses.entries i x old
    | inr new ↦ rw (new.0) (rw (← new.1) used)
  ];
  stints = uses.stints;
}

-- a core that has not entered its clock's round has entered those before
entries_so_far : (course : CourseView) (rounds posted : ℕ) (decided : List ℕ) (c : ℕ)
    (core : CoreState) → CoreInvariant course rounds posted decided c core
    → phase_of rounds core ≡ to_decide →
    core.clock ≡ round_of core * ROUND → length core.entries ≡ round_of core
entries_so_far course rounds posted decided c core k due start =
    elim (cases_lt (round_of core) (length core.entries)) [
      | inl more ↦
          let was = entered_below core.entries (round_of core) k.timeline.numbered more in
          let isnt = (deciding rounds core due).not_entered in
          absurd cc
      | inr le ↦ omega (arith, k.timeline.reach)
    ]

-- Decide keeps what is kept where the round has a count
pub enters_after_keeps : (course : CourseView) (rounds c : ℕ) (old new : State)
    → EntersAfter rounds c old new → StateInvariant course rounds old → StateInvariant course rounds new
enters_after_keeps course rounds c old new p k =
    let core : CoreState = p.round.core in
    let kept = k.cores c core p.round.at in
    let len = entries_so_far course rounds old.posted old.decided c core kept p.round.due p.round.start in
    let e : Entry = record { round = round_of core; used = p.used; seen = p.round.seen; won = false } in
    let changed : CoreState = enters core e in
    subst (λ (s : State). StateInvariant course rounds s) (sym p.becomes) (record {
      size = length-set old.cores c changed ∙ k.size;
      table = record {
        cores = cores_after (λ (d : ℕ) (x : CoreState). UsesCounts old.decided x) old.cores c changed
            k.table.cores
            (uses_entered old.decided core e (k.table.cores c core p.round.at) (rw len p.count));
        one_winner =
            λ r d h. won_after old.cores c r d core changed p.round.at (λ x g. push_old core.entries r e x g)
            (λ x g w. elim (push_split core.entries r e x g)
            [ inl was ↦ was | inr is ↦ absurd (let lost = ap (λ (y : Entry). y.won) is.1 in cc) ])
            (k.table.one_winner r d h);
        rises = k.table.rises;
      };
      cores = cores_after
          (λ (d : ℕ) (x : CoreState). CoreInvariant course rounds old.posted old.decided d x) old.cores c
          changed k.cores
          (core_entered course rounds old.posted old.decided c core e kept (sym len)
          (rw len p.round.start) (deciding rounds core p.round.due).unfinished
          (kept.sight p.round.seen p.round.has_seen).seen_posted);
      fresh = k.fresh;
      decided_posted = k.decided_posted;
      posted_most = k.posted_most;
      near = near_after course old c core changed p.round.at refl k.near;
    })

-- all cores still use one plan in a round where a core enters one that had no count
table_entered : (old : State) (c seen : ℕ) (core : CoreState) (e : Entry) → HasOneTable old
    → IsCore old c core → e.used ≡ seen → e.seen ≡ seen → e.won ≡ true
    → length core.entries ≡ length old.decided
    → ((r d : ℕ) → slice_get old.decided r ≡ Some d → (r + 1) * ROUND ≤ core.clock → d ≤ seen)
    → core.clock ≡ length core.entries * ROUND →
    HasOneTable (record old {
      decided = old.decided ++ seen ∷ [];
      cores = slice_set old.cores c (enters core e);
    })
table_entered old c seen core e k at used saw won first counts clock =
    let changed : CoreState = enters core e in
    let more : List ℕ = old.decided ++ seen ∷ [] in
    let here : slice_get more (length core.entries) ≡ Some seen = rw first (push_new old.decided seen) in
    let grown = λ (d : ℕ) (x : CoreState) (was : UsesCounts old.decided x). uses_grown old.decided more x
    was (λ r u h. push_old old.decided r seen u h) in
    record {
      cores = cores_after (λ (d : ℕ) (x : CoreState). UsesCounts more x) old.cores c changed
          (λ d x h. grown d x (k.cores d x h))
          (uses_entered more core e (grown c core (k.cores c core at)) (rw used here));
      one_winner = λ r d h. elim (push_split old.decided r seen d h) [
        | inl before ↦ won_after old.cores c r d core changed at (λ x g. push_old core.entries r e x g)
            (λ x g w. elim (push_split core.entries r e x g) [
              | inl was ↦ was
              | inr is ↦
                  let lt = slice_get_within old.decided r d before in
                  let place = is.0 in
                  absurd (omega arith)
            ]) (k.one_winner r d before)
        | inr new ↦ (let place : r ≡ length core.entries = new.0 ∙ sym first in record {
          winner = c;
          won_by = record {
            core = changed;
            at = set_here old.cores c changed core at;
            entry = e;
            entered = rw place (push_new core.entries e);
            won = won;
            seen = saw ∙ new.1;
          };
          only = λ i x f g q w. elim (set_split old.cores c i changed x g) [
            | inl is ↦ is.0
            | inr other ↦
                let few = entered_counted old.decided x (k.cores i x other.1) in
                let lt = slice_get_within x.entries r f q in
                absurd (omega (arith, new.0))
          ];
        })
      ];
      rises = λ r a b h g. elim (push_split old.decided (suc r) seen b g) [
        | inl g-old ↦ elim (push_split old.decided r seen a h) [
          | inl h-old ↦ k.rises r a b h-old g-old
          | inr h-new ↦
              absurd (let lt = slice_get_within old.decided (suc r) b g-old in let place = h-new.0 in omega arith)
        ]
        | inr g-new ↦ elim (push_split old.decided r seen a h) [
          | inl h-old ↦
              let place = g-new.0 in
              let le = counts r a h-old (omega arith) in
              let is = g-new.1 in
              omega arith
          | inr h-new ↦ absurd (let place = g-new.0 in let place' = h-new.0 in omega arith)
        ]
      ];
    }

-- all cores still use one plan in a round where a core enters one that had a count
pub enters_first_keeps : (course : CourseView) (rounds c : ℕ) (old new : State)
    → EntersFirst rounds c old new → StateInvariant course rounds old → StateInvariant course rounds new
enters_first_keeps course rounds c old new p k =
    let core : CoreState = p.round.core in
    let kept = k.cores c core p.round.at in
    let sight = kept.sight p.round.seen p.round.has_seen in
    let len = entries_so_far course rounds old.posted old.decided c core kept p.round.due p.round.start in
    let e : Entry = record { round = round_of core; used = p.round.seen; seen = p.round.seen; won = true } in
    let changed : CoreState = enters core e in
    let more : List ℕ = old.decided ++ p.round.seen ∷ [] in
    let grown = λ (d : ℕ) (x : CoreState) (at : IsCore old d x). core_grown course rounds old.posted
    old.decided more d x (k.cores d x at) (entered_counted old.decided x (k.table.cores d x at))
    (λ r u h. elim (push_split old.decided r p.round.seen u h)
    [ inl before ↦ inl before | inr new ↦ inr (omega (arith, new.0)) ]) in
    subst (λ (s : State). StateInvariant course rounds s) (sym p.becomes) (record {
      size = length-set old.cores c changed ∙ k.size;
      table = table_entered old c p.round.seen core e k.table p.round.at refl refl refl (len ∙ sym p.first)
          sight.counts (rw len p.round.start);
      cores = cores_after (λ (d : ℕ) (x : CoreState). CoreInvariant course rounds old.posted more d x)
          old.cores c changed grown
          (core_entered course rounds old.posted more c core e (grown c core p.round.at) (sym len)
          (rw len p.round.start) (deciding rounds core p.round.due).unfinished sight.seen_posted);
      fresh = λ r d h. elim (push_split old.decided r p.round.seen d h) [
        | inl before ↦ k.fresh r d before
        | inr new ↦
            let first = p.first in
            let start = p.round.start in
            let here-is = new.0 in
            let at : core.clock ≡ r * ROUND = omega arith in
            rw (← new.1, ← at) sight.fresh
      ];
      decided_posted = λ r d h. elim (push_split old.decided r p.round.seen d h) [
        | inl before ↦ k.decided_posted r d before
        | inr new ↦
            (let is = new.1 in let le = sight.seen_posted in omega arith)
      ];
      posted_most = k.posted_most;
      near = near_after course old c core changed p.round.at refl k.near;
    })

-- Run

-- a core keeps its timeline when it runs its next stint
timeline_ran : (course : CourseView) (rounds c : ℕ) (core : CoreState) (s : Stint) → IsCourse course
    → HasTimeline core.clock core.entries core.stints → IsNextStint course rounds c core s
    → HasTimeline s.end core.entries (core.stints ++ s ∷ [])
timeline_ran course rounds c core s ok t next =
    let bounds = stint_bounds course c core.stints s ok next.follows in
    let from : s.from ≡ core.clock = next.from in
    let entered = slice_get_within core.entries (round_of core) next.entry next.entered in
    record {
      contiguous = contiguous_push 0 core.clock core.stints s t.contiguous next.from;
      numbered = t.numbered;
      reach = omega (arith, bounds.1);
      ahead = omega (arith, bounds.0, t.ahead);
      each = λ i u h. elim (push_split core.stints i s u h) [
        | inl old ↦ t.each i u old
        | inr new ↦ rw (← new.1) (record {
          some_ticks = bounds.0;
          in_round = bounds.1;
          entry = next.entry;
          entered = rw next.from next.entered;
          used = next.uses;
        })
      ];
    }

-- a core keeps all else when it runs its next stint
core_ran : (course : CourseView) (rounds posted : ℕ) (decided : List ℕ) (c : ℕ) (core : CoreState)
    (s : Stint) → IsCourse course → CoreInvariant course rounds posted decided c core
    → IsNextStint course rounds c core s →
    CoreInvariant course rounds posted decided c (runs core s)
core_ran course rounds posted decided c core s ok k next =
    let bounds = stint_bounds course c core.stints s ok next.follows in
    let sight = k.sight s.seen next.has_seen in
    let from : s.from ≡ core.clock = next.from in
    let unfinished = running rounds core next.due in
    let low : core.clock < rounds * ROUND = omega (arith, k.clock.in_run) in
    record {
      timeline = timeline_ran course rounds c core s ok k.timeline next;
      clock = record {
        in_run = omega (arith, bounds.1);
        events = λ i lt. omega (arith, k.clock.events i lt, bounds.0);
      };
      entries = k.entries;
      stints = record {
        each = λ i t h. elim (push_split core.stints i s t h) [
          | inl old ↦ rw (take_push_old core.stints i s t old) (k.stints.each i t old)
          | inr new ↦ rw (new.0, take_push_new core.stints s, ← new.1) (record {
            seen_posted = sight.seen_posted;
            fresh = rw next.from sight.fresh;
            dispatch = next.follows;
          })
        ];
        risen = λ i j t u le h g. elim (push_split core.stints j s u g) [
          | inl g-old ↦ elim (push_split core.stints i s t h) [
            | inl h-old ↦ k.stints.risen i j t u le h-old g-old
            | inr h-new ↦ absurd (let lt = slice_get_within core.stints j u g-old in let at = h-new.0 in omega arith)
          ]
          | inr g-new ↦
              (let is = ap (λ (y : Stint). y.seen) g-new.1 in elim (push_split core.stints i s t h) [
                | inl h-old ↦ omega (arith, sight.stints i t h-old)
                | inr h-new ↦ (let is' = ap (λ (y : Stint). y.seen) h-new.1 in omega arith)
              ])
        ];
      };
      sight = λ n h. absurd cc;
    }

-- it uses its round's count in the stint, as it did when it entered the round
uses_ran : (course : CourseView) (rounds c : ℕ) (decided : List ℕ) (core : CoreState) (s : Stint)
    → UsesCounts decided core → IsNextStint course rounds c core s → UsesCounts decided (runs core s)
uses_ran course rounds c decided core s uses next = record {
  entries = uses.entries;
  stints = λ i t h. elim (push_split core.stints i s t h) [
    | inl old ↦ uses.stints i t old
    | inr new ↦ rw (← new.1, next.uses, next.from) (uses.entries (round_of core) next.entry next.entered)
  ];
}

-- Run keeps what is kept
pub runs_keep : (course : CourseView) (rounds c : ℕ) (old new : State) → IsCourse course
    → RunsNextStint course rounds c old new → StateInvariant course rounds old → StateInvariant course rounds new
runs_keep course rounds c old new ok p k =
    let core : CoreState = p.core in
    let s : Stint = p.stint in
    let kept = k.cores c core p.at in
    let changed : CoreState = runs core s in
    let bounds = stint_bounds course c core.stints s ok p.next.follows in
    let from : s.from ≡ core.clock = p.next.from in
    subst (λ (x : State). StateInvariant course rounds x) (sym p.becomes) (record {
      size = length-set old.cores c changed ∙ k.size;
      cores = cores_after
          (λ (d : ℕ) (x : CoreState). CoreInvariant course rounds old.posted old.decided d x) old.cores c
          changed k.cores
          (core_ran course rounds old.posted old.decided c core s ok kept p.next);
      table = record {
        cores = cores_after (λ (d : ℕ) (x : CoreState). UsesCounts old.decided x) old.cores c changed
            k.table.cores
            (uses_ran course rounds c old.decided core s (k.table.cores c core p.at) p.next);
        one_winner = λ r d h. won_after old.cores c r d core changed p.at (λ x g. g) (λ x g w. g)
            (k.table.one_winner r d h);
        rises = k.table.rises;
      };
      fresh = k.fresh;
      decided_posted = k.decided_posted;
      posted_most = k.posted_most;
      near = λ d e x y h g. elim (set_split old.cores c d changed x h) [
        | inl x-is ↦
            (let clock-x = ap (λ (z : CoreState). z.clock) x-is.1 in elim
            (set_split old.cores c e changed y g) [
              | inl y-is ↦ (let clock-y = ap (λ (z : CoreState). z.clock) y-is.1 in omega arith)
              | inr y-old ↦
                  let near = p.near e y y-old.1 (λ same_core. y-old.0 (sym (some_same c e same_core))) in
                  omega arith
            ])
        | inr x-old ↦ elim (set_split old.cores c e changed y g) [
          | inl y-is ↦
              let clock-y = ap (λ (z : CoreState). z.clock) y-is.1 in
              let near = k.near d c x core x-old.1 p.at in
              omega (arith, bounds.0)
          | inr y-old ↦ k.near d e x y x-old.1 y-old.1
        ]
      ];
    })
  where
    some_same : (a b : ℕ) → ◌≡◌ {A = Option ℕ} (Some a) (Some b) → a ≡ b
    some_same a b h = cc

-- any step keeps what is kept
pub moves_keep : (course : CourseView) (rounds : ℕ) (old : State) (step : Step) (new : State)
    → IsCourse course → Moves course rounds old step new → StateInvariant course rounds old
    → StateInvariant course rounds new
moves_keep course rounds old steps.Post new ok m k = posts_keep course rounds old new m k
moves_keep course rounds old (steps.See c) new ok m k = sees_keep course rounds c old new m k
moves_keep course rounds old (steps.Decide c) new ok m k =
    elim m [
      | inl w ↦ enters_first_keeps course rounds c old new w k
      | inr j ↦
          enters_after_keeps course rounds c old new j k
    ]
moves_keep course rounds old (steps.Run c) new ok m k = runs_keep course rounds c old new ok m k

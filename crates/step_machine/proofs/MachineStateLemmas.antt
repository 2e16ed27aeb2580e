-- What the code of a step knows of the state that is kept of a run, and of the log that it works on.
use Rattle.std.proofs.Common.{◌≡◌, ℕ, ◌+◌, ◌*◌, ◌/◌, ◌^◌, ◌<◌, ◌≤◌, inl, inr, List, length, Option, Some, refl, ap, sym, subst, ◌∙◌, arith}
use Rattle.std.proofs.lemmas.List.{length-map}
use Rattle.std.specs.Prelude.{slice_get, slice_index_or, vec_capacity}
use Rattle.std.proofs.lemmas.Option.{slice_get_read, slice_get_within}
use Rattle.tab_core.specs.declared.TheConstants.{MAX_ROUNDS, ROUND}
use Rattle.tab_core.specs.declared.stint.Stint.{Stint}
use Rattle.tab_core.proofs.Lists.{element_at}
use Rattle.table_form.specs.Running.Courses.{CourseView, IsCourse}
use Rattle.table_form.specs.Running.State.{CoreState}
use Rattle.table_form.specs.Running.Choice.{last_shared}
use Rattle.table_form.specs.Running.Invariant.{StateInvariant, CoreInvariant}
use Rattle.table_form.specs.Running.Next.{IsLeastClock}
use Rattle.table_form.specs.Running.Phases.{phase_of, to_decide}
use Rattle.step_machine.specs.declared.core_log.CoreLog.{CoreLog}
use Rattle.step_machine.specs.declared.machine_state.MachineState.{MachineState}
use Rattle.step_machine.specs.Inside.Logs.{core_of_log, KnowLast, ChangesLog, IsLowestOf}
use Rattle.step_machine.specs.Inside.MachineStates.{state_of_machine, HasSpare}
use Rattle.std.proofs.lemmas.Bool.{cases_lt}
use Rattle.step_machine.proofs.PhaseLemmas.{deciding, entered_below}
use Rattle.step_machine.proofs.Lists.{set_split}
use Rattle.step_machine.proofs.LogLemmas.{log_at, core_at}

-- there is a log for each core of the course
pub logs_count : (course : CourseView) (rounds : ℕ) (p : MachineState) → StateInvariant course rounds (state_of_machine p)
    → length p.logs.items ≡ course.cores
logs_count course rounds p kept = sym (length-map p.logs.items core_of_log) ∙ kept.size

-- the log that an index finds
pub log_found : (course : CourseView) (rounds : ℕ) (p : MachineState) (c : ℕ) (log : CoreLog)
    → StateInvariant course rounds (state_of_machine p) → c < course.cores → log ≡ slice_index_or p.logs.items c log
    → slice_get p.logs.items c ≡ Some log
log_found course rounds p c log kept lt is =
    slice_get_read p.logs.items (length p.logs.items) c log refl
    (let n = logs_count course rounds p kept in omega arith) is

-- a log stands for a core that keeps the invariant
pub log_kept : (course : CourseView) (rounds : ℕ) (p : MachineState) (c : ℕ) (log : CoreLog)
    → StateInvariant course rounds (state_of_machine p) → slice_get p.logs.items c ≡ Some log
    → CoreInvariant course rounds p.posted p.decided.items c (core_of_log log)
log_kept course rounds p c log kept at = kept.cores c (core_of_log log) (core_at p.logs.items c log at)

-- a clock and a lag fit 32 bits
pub clock_small : (course : CourseView) (rounds : ℕ) (p : MachineState) (c : ℕ) (log : CoreLog)
    → StateInvariant course rounds (state_of_machine p) → IsCourse course → rounds ≤ MAX_ROUNDS
    → slice_get p.logs.items c ≡ Some log → log.clock + course.lag < 2 ^ 32
clock_small course rounds p c log kept ok few at =
    (let k = log_kept course rounds p c log kept at in omega (arith, k.clock.in_run, ok.form.outline.small_lag))

-- the logs know their last picks after one of them is edited
pub last_edited : (course : CourseView) (old new : List CoreLog) (c : ℕ) (before : CoreLog)
    (changed : CoreState) (last : Option ℕ) → ChangesLog old new c before changed last
    → last ≡ last_shared course c changed.stints → KnowLast course old → KnowLast course new
last_edited course old new c before changed last e is know =
    λ k log h. elim (set_split old c k e.log log
    (subst (λ (xs : List CoreLog). slice_get xs k ≡ Some log) e.becomes h)) [
      | inl here ↦ (let stints = ap (λ (x : CoreState). x.stints) e.core in
          subst (λ (x : CoreLog). x.last ≡ last_shared course k x.stints.items) here.1
          (e.last_is ∙ is ∙ ap (λ (d : ℕ). last_shared course d changed.stints) (sym here.0)
          ∙ ap (λ (ss : List Stint). last_shared course k ss) (sym stints)))
      | inr other ↦ know k log other.1
    ]

-- the log of a core
pub log_at_core : (course : CourseView) (rounds : ℕ) (p : MachineState) (c : ℕ)
    → StateInvariant course rounds (state_of_machine p) → c < course.cores
    → (log : CoreLog) × (slice_get p.logs.items c ≡ Some log)
log_at_core course rounds p c kept lt =
    element_at p.logs.items c (let n = logs_count course rounds p kept in omega arith)

-- a core that is to enter a round has entered those before
entries_few : (course : CourseView) (rounds : ℕ) (p : MachineState) (c : ℕ) (log : CoreLog)
    → StateInvariant course rounds (state_of_machine p) → slice_get p.logs.items c ≡ Some log
    → phase_of rounds (core_of_log log) ≡ to_decide →
    length log.entries.items ≤ log.clock / ROUND
entries_few course rounds p c log kept at due =
    let k = log_kept course rounds p c log kept at in
    elim (cases_lt (log.clock / ROUND) (length log.entries.items)) [
      | inl more ↦
          let was = entered_below log.entries.items (log.clock / ROUND) k.timeline.numbered more in
          let isnt = (deciding rounds (core_of_log log) due).not_entered in
          absurd cc
      | inr le ↦ le
    ]

-- a core that is to enter a round is at its start
pub starts_round : (course : CourseView) (rounds : ℕ) (p : MachineState) (c : ℕ) (log : CoreLog)
    → StateInvariant course rounds (state_of_machine p) → slice_get p.logs.items c ≡ Some log
    → phase_of rounds (core_of_log log) ≡ to_decide →
    (log.clock ≡ log.clock / ROUND * ROUND)
starts_round course rounds p c log kept at due =
    let k = log_kept course rounds p c log kept at in
    let few = entries_few course rounds p c log kept at due in
    omega (arith, k.timeline.reach)

-- room for some steps is room for one
pub spare_some : (rounds n : ℕ) (p : MachineState) → 1 ≤ n → HasSpare rounds n p → HasSpare rounds 1 p
spare_some rounds n p some spare = record {
  decided = omega (arith, spare.decided);
  logs = λ k log h.
      (let room = spare.logs k log h in record {
        entries = omega (arith, room.entries);
        stints = omega (arith, room.stints);
        few = omega (arith, room.few);
      });
}

-- a core that is to enter a round enters one of the run's, and has room for the entry
pub round_small : (course : CourseView) (rounds : ℕ) (p : MachineState) (c : ℕ) (log : CoreLog)
    → StateInvariant course rounds (state_of_machine p) → slice_get p.logs.items c ≡ Some log
    → phase_of rounds (core_of_log log) ≡ to_decide →
    log.clock / ROUND < rounds
round_small course rounds p c log kept at due =
    let k = log_kept course rounds p c log kept at in
    let unfinished = (deciding rounds (core_of_log log) due).unfinished in
    let low : log.clock < rounds * ROUND = omega (arith, k.clock.in_run) in
    omega arith

-- a log has room for the entry of a core that is to enter a round
pub entry_room : (course : CourseView) (rounds : ℕ) (p : MachineState) (c : ℕ) (log : CoreLog)
    → StateInvariant course rounds (state_of_machine p) → HasSpare rounds 1 p → slice_get p.logs.items c ≡ Some log
    → phase_of rounds (core_of_log log) ≡ to_decide →
    length log.entries.items < vec_capacity log.entries
entry_room course rounds p c log kept spare at due =
    let few = entries_few course rounds p c log kept at due in
    let small = round_small course rounds p c log kept at due in
    omega (arith, (spare.logs c log at).entries)

-- a step takes at most the room of one
pub spare_less : (rounds n : ℕ) (p : MachineState) → HasSpare rounds (n + 1) p → HasSpare rounds n p
spare_less rounds n p spare = record {
  decided = omega (arith, spare.decided);
  logs = λ k log h.
      (let room = spare.logs k log h in record {
        entries = omega (arith, room.entries);
        stints = omega (arith, room.stints);
        few = omega (arith, room.few);
      });
}

-- the lowest of the logs is that of a core of least clock
pub least_clock : (p : MachineState) (c : ℕ) (log : CoreLog) → slice_get p.logs.items c ≡ Some log
    → IsLowestOf p.logs.items (length p.logs.items) c → IsLeastClock (state_of_machine p) c (core_of_log log)
least_clock p c log at lowest = record {
  at = core_at p.logs.items c log at;
  least = λ d other h. (let found = log_at p.logs.items d other h in
      let le = lowest.least d found.0 log (slice_get_within p.logs.items d found.0 found.1) found.1 at in
      let clock = ap (λ (x : CoreState). x.clock) found.2 in
      omega arith);
  first = λ d other lt h. (let found = log_at p.logs.items d other h in
      let less = lowest.first d found.0 log lt found.1 at in
      let clock = ap (λ (x : CoreState). x.clock) found.2 in
      omega arith);
}

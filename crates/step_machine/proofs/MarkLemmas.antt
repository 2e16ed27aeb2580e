-- Marks: what a step leaves of what they refer to, and the mark of what it made.
use Rattle.std.proofs.Common.{◌≡◌, ℕ, zero, suc, ◌-◌, ◌<◌, inl, inr, List, [], ◌∷◌, ◌++◌, length, length-append, length-set, append-nil, Option, Some, refl, ap, sym, subst, ◌∙◌, arith}
use Rattle.std.specs.Prelude.{slice_get, slice_index_or, slice_set}
use Rattle.std.proofs.lemmas.List.{length-map, map_push}
use Rattle.std.proofs.lemmas.List.Elements.{All-append, All-head, All-tail}
use Rattle.std.proofs.lemmas.Option.{get_or_from_slice_get, slice_get_read, slice_get_within}
use Rattle.tab_core.specs.declared.entry.Entry.{Entry}
use Rattle.tab_core.specs.declared.stint.Stint.{Stint}
use Rattle.tab_core.proofs.Lists.{get_front, push_new, same, only_one}
use Rattle.table_form.specs.Running.Courses.{CourseView}
use Rattle.table_form.specs.Running.State.{State, CoreState, opening_core}
use Rattle.script_doc.specs.declared.step.Step.{Step}
use Rattle.script_doc.specs.declared.step.Step.TheVariants as steps
use Rattle.step_machine.specs.Answers.{AnswersStep, Moves}
use Rattle.step_machine.specs.declared.core_log.CoreLog.{CoreLog}
use Rattle.step_machine.specs.Inside.Logs.{core_of_log, cores_of_logs}
use Rattle.step_machine.specs.Inside.Marks.{AllStand, IsMarkThere, all_made, core_in, entry_made, made_by, stint_made}
use Rattle.step_machine.specs.Traces.{AreMadeBy, EndsWith}
use Rattle.step_machine.specs.declared.answer.Answer.{Answer}
use Rattle.step_machine.specs.declared.answer.Answer.TheVariants.{Done, Behind, NotNow}
use Rattle.step_machine.specs.declared.mark.Mark.{Mark}
use Rattle.step_machine.specs.declared.mark.Mark.TheVariants as marks
use Rattle.step_machine.specs.declared.trace.Made.{Made}
use Rattle.step_machine.proofs.TraceLemmas.{core_there, ends_some}

-- a core with the entries and stints that it had, and perhaps some after them
pub record Extends (core more : CoreState) : Type 0 where
  pub new_entries : List Entry
  pub new_stints : List Stint
  pub entries : more.entries ≡ core.entries ++ new_entries
  pub stints : more.stints ≡ core.stints ++ new_stints

-- each core has the entries and stints that it had
pub record AreGrown (old new : List CoreState) : Type 0 where
  pub size : length new ≡ length old
  pub each : (c : ℕ) → Extends (core_in old c) (core_in new c)

-- a core that has the entries and stints that it had and no others
extends_by_none : (core more : CoreState) → more.entries ≡ core.entries → more.stints ≡ core.stints
    → Extends core more
extends_by_none core more entries stints = record {
  new_entries = [];
  new_stints = [];
  entries = entries ∙ sym (append-nil core.entries);
  stints = stints ∙ sym (append-nil core.stints);
}

-- cores to which nothing happened
grown_same : (cores : List CoreState) → AreGrown cores cores
grown_same cores = record { size = refl; each = λ c. extends_by_none (core_in cores c) (core_in cores c) refl refl }

-- each core where one of them is written
extends_written : (cores : List CoreState) (c d : ℕ) (core changed : CoreState) → slice_get cores c ≡ Some core
    → Extends core changed → Extends (core_in cores d) (core_in (slice_set cores c changed) d)
extends_written [] c d core changed at more = absurd cc
extends_written (x ∷ xs) zero zero core changed at more =
    subst (λ (y : CoreState). Extends y changed) (same (Some x) core x at refl) more
extends_written (x ∷ xs) zero (suc d) core changed at more = extends_by_none _ _ refl refl
extends_written (x ∷ xs) (suc c) zero core changed at more = extends_by_none _ _ refl refl
extends_written (x ∷ xs) (suc c) (suc d) core changed at more = extends_written xs c d core changed at more

-- all cores are grown where the one that is written is
grown_written : (cores : List CoreState) (c : ℕ) (core changed : CoreState) → slice_get cores c ≡ Some core
    → Extends core changed → AreGrown cores (slice_set cores c changed)
grown_written cores c core changed at more = record {
  size = length-set cores c changed;
  each = λ d. extends_written cores c d core changed at more;
}

-- a step takes away no entry and no stint
moves_grow : (course : CourseView) (rounds : ℕ) (old : State) (step : Step) (new : State)
    → Moves course rounds old step new → AreGrown old.cores new.cores
moves_grow course rounds old steps.Post new m =
    subst (λ (s : State). AreGrown old.cores s.cores) (sym m.becomes) (grown_same old.cores)
moves_grow course rounds old (steps.See c) new m =
    subst (λ (s : State). AreGrown old.cores s.cores) (sym m.becomes)
    (grown_written old.cores c m.core _ m.at (extends_by_none _ _ refl refl))
moves_grow course rounds old (steps.Decide c) new (inl m) =
    subst (λ (s : State). AreGrown old.cores s.cores) (sym m.becomes)
    (grown_written old.cores c m.round.core _ m.round.at (record {
      new_entries = _ ∷ [];
      new_stints = [];
      entries = refl;
      stints = sym (append-nil m.round.core.stints);
    }))
moves_grow course rounds old (steps.Decide c) new (inr m) =
    subst (λ (s : State). AreGrown old.cores s.cores) (sym m.becomes)
    (grown_written old.cores c m.round.core _ m.round.at (record {
      new_entries = _ ∷ [];
      new_stints = [];
      entries = refl;
      stints = sym (append-nil m.round.core.stints);
    }))
moves_grow course rounds old (steps.Run c) new m =
    subst (λ (s : State). AreGrown old.cores s.cores) (sym m.becomes)
    (grown_written old.cores c m.core _ m.at (record {
      new_entries = [];
      new_stints = m.stint ∷ [];
      entries = sym (append-nil m.core.entries);
      stints = refl;
    }))

-- whatever its answer is
pub answers_grow : (course : CourseView) (rounds : ℕ) (old : State) (step : Step) (answer : Answer)
    (new : State) → AnswersStep course rounds old step answer new → AreGrown old.cores new.cores
answers_grow course rounds old step Done new moves = moves_grow course rounds old step new moves
answers_grow course rounds old step (Behind who tick) new waits = rw waits.1 (grown_same old.cores)
answers_grow course rounds old step (NotNow found) new waits = rw waits.1 (grown_same old.cores)

-- what a mark refers to is still there
stands_still : (old new : List CoreState) (m : Mark) → AreGrown old new → IsMarkThere old m → IsMarkThere new m
stands_still old new (marks.Entered c place) grown is =
    let more = grown.each c in
    let n = length-append (core_in old c).entries more.new_entries in
    (omega (arith, grown.size, is.0), omega (arith, ap length more.entries, n, is.1))
stands_still old new (marks.Ran c place) grown is =
    let more = grown.each c in
    let n = length-append (core_in old c).stints more.new_stints in
    (omega (arith, grown.size, is.0), omega (arith, ap length more.stints, n, is.1))

-- what a mark refers to is what it was
made_still : (old new : List CoreState) (m : Mark) → AreGrown old new → IsMarkThere old m
    → made_by new m ≡ made_by old m
made_still old new (marks.Entered c place) grown is =
    let more = grown.each c in
    ap (λ (es : List Entry). entry_made c (slice_get es place)) more.entries
    ∙ ap (entry_made c) (get_front (core_in old c).entries more.new_entries place is.1)
made_still old new (marks.Ran c place) grown is =
    let more = grown.each c in
    ap (λ (ts : List Stint). stint_made c (slice_get ts place)) more.stints
    ∙ ap (stint_made c) (get_front (core_in old c).stints more.new_stints place is.1)

-- all marks refer to what is still there
pub all_stand_still : (old new : List CoreState) (ms : List Mark) → AreGrown old new → AllStand old ms
    → AllStand new ms
all_stand_still old new ms grown stand = λ k m lt. stands_still old new _ grown (stand k m lt)

-- what all marks refer to is what it was
pub all_made_still : (old new : List CoreState) (ms : List Mark) → AreGrown old new → AllStand old ms
    → all_made new ms ≡ all_made old ms
all_made_still old new [] grown stand = refl
all_made_still old new (m ∷ ms) grown stand =
    let first = made_still old new m grown (All-head (IsMarkThere old) m ms stand) in
    let rest = all_made_still old new ms grown (All-tail (IsMarkThere old) m ms stand) in
    ap (λ (x : Made). x ∷ all_made new ms) first ∙ ap (λ (xs : List Made). made_by old m ∷ xs) rest

-- the last of a list is at the place before its length
ends_at : {X : Type 0} (xs : List X) (n : ℕ) (x : X) → EndsWith xs x → n ≡ length xs
    → slice_get xs (n - 1) ≡ Some x
ends_at xs n x ends is =
    let long = length-append ends.0 (x ∷ []) in
    let last : n - 1 ≡ length ends.0 = omega (arith, is, ap length ends.1, long) in
    rw (last, ends.1) (push_new ends.0 x)

-- a list that ends with something has a place
ends_within : {X : Type 0} (xs : List X) (n : ℕ) (x : X) → EndsWith xs x → n ≡ length xs → n - 1 < length xs
ends_within xs n x ends is =
    let long = length-append ends.0 (x ∷ []) in
    omega (arith, is, ap length ends.1, long)

-- marks with one more, which refers to what a step made
all_made_more : (cores : List CoreState) (ms : List Mark) (m : Mark) (made : List Made)
    → made ≡ made_by cores m ∷ [] → all_made cores (ms ++ m ∷ []) ≡ all_made cores ms ++ made
all_made_more cores ms m made is = rw is (map_push (made_by cores) ms m)

-- what the marks refer to is there where one is added of which that holds
pub stand_more : (cores : List CoreState) (ms : List Mark) (m : Mark) → IsMarkThere cores m → AllStand cores ms
    → AllStand cores (ms ++ m ∷ [])
stand_more cores ms m one stand =
    All-append (IsMarkThere cores) ms (m ∷ []) stand (only_one (IsMarkThere cores) m one)

-- the mark of the last of so many entries of a core refers to what a Decide made
pub entry_marked : (s : State) (c n : ℕ) (core : CoreState) (ms : List Mark) (made : List Made)
    → slice_get s.cores c ≡ Some core → n ≡ length core.entries → AreMadeBy (steps.Decide c) s made
    → (all_made s.cores (ms ++ marks.Entered c (n - 1) ∷ []) ≡ all_made s.cores ms ++ made)
    × IsMarkThere s.cores (marks.Entered c (n - 1))
entry_marked s c n core ms made at is by =
    let found : core_in s.cores c ≡ core = get_or_from_slice_get s.cores c core opening_core at in
    let long : n ≡ length (core_in s.cores c).entries =
    is ∙ ap (λ (x : CoreState). length x.entries) (sym found) in (
      all_made_more s.cores ms _ made (by.2 ∙ ap (λ (e : Option Entry). entry_made c e ∷ [])
          (sym (ends_at (core_in s.cores c).entries n by.0 by.1 long))),
      (slice_get_within s.cores c core at, ends_within (core_in s.cores c).entries n by.0 by.1 long),
    )

-- the mark of the last of so many stints of a core refers to what a Run made
pub stint_marked : (s : State) (c n : ℕ) (core : CoreState) (ms : List Mark) (made : List Made)
    → slice_get s.cores c ≡ Some core → n ≡ length core.stints → AreMadeBy (steps.Run c) s made
    → (all_made s.cores (ms ++ marks.Ran c (n - 1) ∷ []) ≡ all_made s.cores ms ++ made)
    × IsMarkThere s.cores (marks.Ran c (n - 1))
stint_marked s c n core ms made at is by =
    let found : core_in s.cores c ≡ core = get_or_from_slice_get s.cores c core opening_core at in
    let long : n ≡ length (core_in s.cores c).stints =
    is ∙ ap (λ (x : CoreState). length x.stints) (sym found) in (
      all_made_more s.cores ms _ made (by.2 ∙ ap (λ (t : Option Stint). stint_made c t ∷ [])
          (sym (ends_at (core_in s.cores c).stints n by.0 by.1 long))),
      (slice_get_within s.cores c core at, ends_within (core_in s.cores c).stints n by.0 by.1 long),
    )

-- a core of which a Decide made something is there
pub decide_there : (s : State) (c : ℕ) (made : List Made) → AreMadeBy (steps.Decide c) s made → c < length s.cores
decide_there s c made by = (core_there s.cores c (λ is. ends_some (core_in s.cores c).entries by.0 by.1
    (ap (λ (x : CoreState). x.entries) is))).1

-- a core of which a Run made something is there
pub run_there : (s : State) (c : ℕ) (made : List Made) → AreMadeBy (steps.Run c) s made → c < length s.cores
run_there s c made by = (core_there s.cores c (λ is. ends_some (core_in s.cores c).stints by.0 by.1
    (ap (λ (x : CoreState). x.stints) is))).1

-- the log that an index finds of a core that is there
pub log_read : (logs : List CoreLog) (c : ℕ) (log : CoreLog) → c < length (cores_of_logs logs)
    → log ≡ slice_index_or logs c log → slice_get logs c ≡ Some log
log_read logs c log lt is = slice_get_read logs (length logs) c log refl (omega (arith, lt, length-map logs core_of_log)) is

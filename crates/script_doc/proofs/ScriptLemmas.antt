-- The events that have been read so far, line by line, and the limits that each of them keeps.
use Rattle.std.proofs.Common.{◌≡◌, ◌⊎◌, inl, inr, ℕ, ◌+◌, ◌*◌, ◌<◌, ◌≤◌, ◌&&◌, Bool, true, false, cond, IsTrue, nat_lt, nat_le, List, [], ◌∷◌, ◌++◌, length, length-append, Option, Some, None, refl, sym, ap, ◌∙◌, subst, append_assoc, arith, rules}
use Rattle.std.proofs.lemmas.Bool.Decides.{nat_tests}
use Rattle.std.proofs.lemmas.List.{append-nil, length-map}
use Rattle.std.proofs.lemmas.List.Elements.{All-append, All-cons}
use Rattle.std.proofs.lemmas.List.Quantifiers.{all_pairs_push}
use Rattle.std.proofs.lemmas.List.Sums.{sum_by-append}
use Rattle.std.specs.List.{All}
use Rattle.tab_core.specs.declared.TheConstants.{MAX_CHANGES, MAX_EVENTS, ROUND}
use Rattle.tab_core.specs.declared.vcpu.Vcpu.{Vcpu}
use Rattle.tab_core.proofs.Lists.{only_one}
use Rattle.tab_words.specs.Lines.{lines_of}
use Rattle.tab_words.specs.Words.{words_of}
use Rattle.vcpu_names.specs.Names.{names_of}
use Rattle.script_doc.specs.Events.{IsActWithin, IsEvent, is_change}
use Rattle.script_doc.specs.Inside.NamedLines.{IsNamedEvent, IsNoNamedLine, IsUnknownNamedLine}
use Rattle.script_doc.proofs.EventsLemmas.{as_named, no_line, of_named}
use Rattle.script_doc.proofs.UnknownLemmas.{unknown_line}
use Rattle.script_doc.specs.Inside.Reading.{fault_at}
use Rattle.script_doc.specs.Script.{AreEvents, AreWithin, IsScript, changes_in}
use Rattle.script_doc.specs.ScriptFaults.{Before, HasFault, IsBad, NamesNobody, BreaksLimit, IsFirstFault, broken_limit, last_tick, left_by}
use Rattle.script_doc.specs.Statements.{Statement, is_skipped, statements_from, statements_of}
use Rattle.script_doc.specs.declared.event.Event.{Event}
use Rattle.script_doc.specs.declared.event_reader.LineFault.{LineFault}
use Rattle.script_doc.specs.declared.event_reader.LineFault.TheVariants.{BadLine as BadForm, UnknownName as NoSuchName, NoMemory as OutOfMemory}
use Rattle.script_doc.specs.declared.script_fault.ScriptFault.{ScriptFault}
use Rattle.script_doc.specs.declared.script_fault.ScriptFault.TheVariants.{BadLine, UnknownName, OutOfOrder, LateEvent, TooManyEvents, TooManyChanges, NoMemory}
use Rattle.script_doc.proofs.StatementLemmas.{statements_from-kept, statements_from-nil, statements_from-skipped}

-- ---- the limits

-- the event breaks no limit after what these leave
pub record IsInLimits (rounds : ℕ) (before : Before) (event : Event) : Type 0 where
  pub order : before.tick ≤ event.tick
  pub in_time : event.tick < rounds * ROUND
  pub few : before.count < MAX_EVENTS
  pub few_changes : IsTrue (is_change event.act) → before.changes < MAX_CHANGES

-- the test of a change too many, where none is one
no_change_too_many : (change : Bool) (changes : ℕ) → (IsTrue change → changes < MAX_CHANGES)
    → (change && nat_le MAX_CHANGES changes) ≡ false
no_change_too_many true changes few = let low = few (search rules) in grind (arith, nat_tests)
no_change_too_many false changes few = refl

-- the four facts exclude each of the four faults
pub unbroken : (rounds : ℕ) (before : Before) (line : ℕ) (event : Event) → IsInLimits rounds before event
    → broken_limit rounds before line event ≡ None
unbroken rounds before line event limits =
    let order : nat_lt event.tick before.tick ≡ false = (let le = limits.order in grind (arith, nat_tests)) in
    let late : nat_le (rounds * ROUND) event.tick ≡ false =
    (let low = limits.in_time in grind (arith, nat_tests)) in
    let many : nat_le MAX_EVENTS before.count ≡ false =
    (let few = limits.few in grind (arith, nat_tests)) in
    let changes = no_change_too_many (is_change event.act) before.changes limits.few_changes in
    rw (order, late, many, changes) refl

-- each of the four facts holds where none of the four faults does
few_changes_of : (change : Bool) (changes : ℕ) → (change && nat_le MAX_CHANGES changes) ≡ false
    → IsTrue change → changes < MAX_CHANGES
few_changes_of true changes none real = grind (arith, nat_tests)
few_changes_of false changes none real = absurd cc

-- where no limit is broken the four facts hold
pub in_limits : (rounds : ℕ) (before : Before) (line : ℕ) (event : Event)
    → broken_limit rounds before line event ≡ None → IsInLimits rounds before event
in_limits rounds before line event none =
    by_order (nat_lt event.tick before.tick) refl (nat_le (rounds * ROUND) event.tick) refl
    (nat_le MAX_EVENTS before.count) refl (is_change event.act && nat_le MAX_CHANGES before.changes) refl
  where
    impossible : (fault : ScriptFault) → ◌≡◌ {A = Option ScriptFault} (Some fault) None
        → IsInLimits rounds before event
    impossible fault is = absurd cc

    by_order : (order : Bool) → nat_lt event.tick before.tick ≡ order
        → (late : Bool) → nat_le (rounds * ROUND) event.tick ≡ late
        → (many : Bool) → nat_le MAX_EVENTS before.count ≡ many
        → (changed : Bool) → (is_change event.act && nat_le MAX_CHANGES before.changes) ≡ changed
        → IsInLimits rounds before event
    by_order true order late late' many many' changed changed' =
        impossible (OutOfOrder line) (rw order at none)
    by_order false order true late many many' changed changed' =
        impossible (LateEvent line) (rw (order, late) at none)
    by_order false order false late true many changed changed' =
        impossible (TooManyEvents line) (rw (order, late, many) at none)
    by_order false order false late false many true changed =
        impossible (TooManyChanges line) (rw (order, late, many, changed) at none)
    by_order false order false late false many false changed = record {
      order = grind (arith, nat_tests);
      in_time = grind (arith, nat_tests);
      few = grind (arith, nat_tests);
      few_changes = few_changes_of (is_change event.act) before.changes changed;
    }

-- ---- the events so far

-- one statement and its event after the others
each_more : (names : List (List ℕ)) (statements : List Statement) (events : List Event) (statement : Statement)
    (event : Event) → AreEvents names statements events
    → IsEvent names statement.words event → AreEvents names (statements ++ statement ∷ []) (events ++ event ∷ [])
each_more names [] [] statement event are is = (is, tt)
each_more names (first ∷ statements) (start ∷ events) statement event are is =
    (are.0, each_more names statements events statement event are.1 is)
each_more names [] (start ∷ events) statement event are is = absurd are
each_more names (first ∷ statements) [] statement event are is = absurd are

-- the last tick is that of the last event
last_tick-last : (events : List Event) (event : Event) → last_tick (events ++ event ∷ []) ≡ event.tick
last_tick-last [] event = refl
last_tick-last (first ∷ []) event = refl
last_tick-last (first ∷ next ∷ events) event = last_tick-last (next ∷ events) event

-- the last event counts among the changes where it is one
changes_in-last : (events : List Event) (event : Event)
    → changes_in (events ++ event ∷ []) ≡ changes_in events + cond (is_change event.act) 1 0
changes_in-last events event =
    let sum = sum_by-append (λ (event : Event). cond (is_change event.act) 1 0) events (event ∷ []) in
    omega arith

-- the lines before these are so many, and their statements are these events
pub record EventsSoFar (names : List (List ℕ)) (rounds : ℕ) (bytes : List ℕ)
    (number tick changes : ℕ) (events : List Event) (lines : List (List ℕ)) : Type 0 where
  pub front : List Statement
  pub whole : statements_of bytes ≡ front ++ statements_from (number + 1) lines
  pub script : IsScript names rounds front events
  pub last : tick ≡ last_tick events
  pub highest : All (λ event. event.tick ≤ tick) events
  pub changed : changes ≡ changes_in events
  pub count : number + length lines ≡ length (lines_of bytes)

-- no statements are a script of no events
no_script : (names : List (List ℕ)) (rounds : ℕ) → IsScript names rounds [] []
no_script names rounds = record {
  each = tt;
  order = λ i j d low high. absurd (omega arith);
  in_time = λ k d low. absurd (omega arith);
  few = omega arith;
  few_changes = omega arith;
}

-- before the first line
pub no_events_yet : (names : List (List ℕ)) (rounds : ℕ) (bytes : List ℕ)
    → EventsSoFar names rounds bytes 0 0 0 [] (lines_of bytes)
no_events_yet names rounds bytes = record {
  front = [];
  whole = refl;
  script = no_script names rounds;
  last = refl;
  highest = λ k d low. absurd (omega arith);
  changed = refl;
  count = omega arith;
}

-- after a line that says nothing
pub line_skipped : (names : List (List ℕ)) (rounds : ℕ) (bytes : List ℕ) (number tick changes : ℕ)
    (events : List Event) (line : List ℕ) (lines : List (List ℕ))
    → EventsSoFar names rounds bytes number tick changes events (line ∷ lines) → is_skipped line ≡ true
    → EventsSoFar names rounds bytes (number + 1) tick changes events lines
line_skipped names rounds bytes number tick changes events line lines so_far skipped = record {
  front = so_far.front;
  whole = so_far.whole ∙ ap (λ statements. so_far.front ++ statements)
      (statements_from-skipped (number + 1) line lines skipped);
  script = so_far.script;
  last = so_far.last;
  highest = so_far.highest;
  changed = so_far.changed;
  count = omega (arith, so_far.count);
}

-- a change below the limit brings the count to the limit at most
few_changes_more : (change : Bool) (changes : ℕ) → changes ≤ MAX_CHANGES
    → (IsTrue change → changes < MAX_CHANGES)
    → changes + cond change 1 0 ≤ MAX_CHANGES
few_changes_more true changes few more = let below = more (search rules) in omega arith
few_changes_more false changes few more = omega arith

-- a script with one more event in its limits is one
script_more : (names : List (List ℕ)) (rounds tick : ℕ) (front : List Statement) (statement : Statement)
    (events : List Event) (event : Event)
    → IsScript names rounds front events → All (λ event. event.tick ≤ tick) events
    → IsEvent names statement.words event
    → IsInLimits rounds (record { tick = tick; count = length events; changes = changes_in events }) event
    → IsScript names rounds (front ++ statement ∷ []) (events ++ event ∷ [])
script_more names rounds tick front statement events event script highest is limits = record {
  each = each_more names front events statement event script.each is;
  order =
      all_pairs_push (λ (earlier later : Event). earlier.tick ≤ later.tick) events event script.order
      (λ k d low. let high = highest k d low in let order = limits.order in omega arith);
  in_time =
      All-append (λ (event : Event). event.tick < rounds * ROUND) events (event ∷ []) script.in_time
      (only_one (λ (event : Event). event.tick < rounds * ROUND) event limits.in_time);
  few = let size = length-append events (event ∷ []) in let few = limits.few in omega arith;
  few_changes =
      rw (changes_in-last events event)
      (few_changes_more (is_change event.act)
      (changes_in events) script.few_changes limits.few_changes);
}

-- after a line that is an event
pub event_read : (names : List (List ℕ)) (rounds : ℕ) (bytes : List ℕ)
    (number tick changes after : ℕ) (events : List Event) (line : List ℕ) (lines : List (List ℕ))
    (event : Event)
    → EventsSoFar names rounds bytes number tick changes events (line ∷ lines) → is_skipped line ≡ false
    → IsNamedEvent names (words_of line) event
    → IsInLimits rounds (record { tick = tick; count = length events; changes = changes }) event
    → after ≡ changes + cond (is_change event.act) 1 0
    → EventsSoFar names rounds bytes (number + 1) event.tick after (events ++ event ∷ []) lines
event_read names rounds bytes number tick changes after events line lines event so_far kept is
    limits counted =
    let statement : Statement = record { number = number + 1; words = words_of line } in
    record {
      front = so_far.front ++ statement ∷ [];
      whole =
          so_far.whole
          ∙ (ap (λ statements. so_far.front ++ statements) (statements_from-kept (number + 1) line lines kept)
          ∙ sym (append_assoc so_far.front (statement ∷ []) (statements_from (number + 1 + 1) lines)));
      script =
          script_more names rounds tick so_far.front statement events event so_far.script so_far.highest
          (of_named names (words_of line) event is)
          (subst (λ (n : ℕ).
          IsInLimits rounds (record { tick = tick; count = length events; changes = n }) event)
          so_far.changed limits);
      last = sym (last_tick-last events event);
      highest =
          All-append (λ (e : Event). e.tick ≤ event.tick) events (event ∷ [])
          (λ k d low. let high = so_far.highest k d low in let order = limits.order in omega arith)
          (only_one (λ (e : Event). e.tick ≤ event.tick) event (omega arith));
      changed = counted ∙ (ap (λ (n : ℕ). n + cond (is_change event.act) 1 0) so_far.changed
          ∙ sym (changes_in-last events event));
      count = omega (arith, so_far.count);
    }

-- a fault of this line is the text's first, since the lines before it are a script
first_fault_here : (names : List (List ℕ)) (rounds : ℕ) (bytes : List ℕ) (number tick changes : ℕ)
    (events : List Event) (line : List ℕ) (lines : List (List ℕ)) (fault : ScriptFault)
    → EventsSoFar names rounds bytes number tick changes events (line ∷ lines) → is_skipped line ≡ false
    → HasFault names rounds events (record { number = number + 1; words = words_of line }) fault
    → IsFirstFault names rounds (statements_of bytes) fault
first_fault_here names rounds bytes number tick changes events line lines fault so_far kept has = record {
  front = so_far.front;
  statement = record { number = number + 1; words = words_of line };
  back = statements_from (number + 1 + 1) lines;
  events = events;
  whole = so_far.whole ∙ ap (λ statements. so_far.front ++ statements) (statements_from-kept (number + 1) line lines kept);
  before = so_far.script;
  here = has;
}

-- the line is no event
pub form_fault : (names : List (List ℕ)) (rounds : ℕ) (bytes : List ℕ) (number tick changes : ℕ)
    (events : List Event) (line : List ℕ) (lines : List (List ℕ)) (fault : LineFault)
    → EventsSoFar names rounds bytes number tick changes events (line ∷ lines) → is_skipped line ≡ false
    → (fault ≡ BadForm → IsNoNamedLine (words_of line))
    → (fault ≡ NoSuchName → IsUnknownNamedLine names (words_of line))
    → (fault_at (number + 1) fault ≡ NoMemory)
    ⊎ IsFirstFault names rounds (statements_of bytes) (fault_at (number + 1) fault)
form_fault names rounds bytes number tick changes events line lines BadForm so_far kept bad unknown =
    inr (first_fault_here names rounds bytes number tick changes events line lines
    (BadLine (number + 1)) so_far kept (IsBad (no_line _ (bad refl))))
form_fault names rounds bytes number tick changes events line lines NoSuchName so_far kept bad unknown =
    inr (first_fault_here names rounds bytes number tick changes events line lines
    (UnknownName (number + 1)) so_far kept (NamesNobody (unknown_line _ _ (unknown refl))))
form_fault names rounds bytes number tick changes events line lines OutOfMemory so_far kept bad
    unknown = inl refl

-- the event breaks a limit
pub limit_fault : (names : List (List ℕ)) (rounds : ℕ) (bytes : List ℕ) (number tick changes : ℕ)
    (events : List Event) (line : List ℕ) (lines : List (List ℕ)) (event : Event) (fault : ScriptFault)
    → EventsSoFar names rounds bytes number tick changes events (line ∷ lines) → is_skipped line ≡ false
    → IsNamedEvent names (words_of line) event
    → broken_limit rounds (record { tick = tick; count = length events; changes = changes })
    (number + 1) event ≡ Some fault
    → IsFirstFault names rounds (statements_of bytes) fault
limit_fault names rounds bytes number tick changes events line lines event fault so_far kept is broken =
    let before_of : ℕ → ℕ → Before = λ t n. record { tick = t; count = length events; changes = n } in
    let left : before_of tick changes ≡ left_by events =
    ap (λ t. before_of t changes) so_far.last ∙ ap (λ n. before_of (last_tick events) n) so_far.changed in
    first_fault_here names rounds bytes number tick changes events line lines fault so_far kept
    (BreaksLimit event fault (of_named names (words_of line) event is)
    (subst (λ (before : Before). broken_limit rounds before (number + 1) event ≡ Some fault) left broken))

-- after the last line
pub whole_script : (names : List (List ℕ)) (rounds : ℕ) (bytes : List ℕ) (number tick changes : ℕ)
    (events : List Event)
    → EventsSoFar names rounds bytes number tick changes events []
    → IsScript names rounds (statements_of bytes) events
whole_script names rounds bytes number tick changes events so_far =
    let whole : statements_of bytes ≡ so_far.front =
    so_far.whole ∙ (ap (λ statements. so_far.front ++ statements) (statements_from-nil (number + 1))
    ∙ append-nil so_far.front) in
    subst (λ statements. IsScript names rounds statements events) (sym whole) so_far.script

-- ---- the vCPUs of a script

-- each vCPU that a line names is one of the names
events_within : (names : List (List ℕ)) (statements : List Statement) (events : List Event)
    → AreEvents names statements events → AreWithin (length names) events
events_within names [] [] are = λ k d low. absurd (omega arith)
events_within names (statement ∷ statements) (event ∷ events) are =
    All-cons (λ (event : Event). IsActWithin (length names) event.act) event events
    (as_named names statement.words event are.0).within
    (events_within names statements events are.1)
events_within names [] (event ∷ events) are = absurd are
events_within names (statement ∷ statements) [] are = absurd are

-- each vCPU that a script names is one of the host's
pub script_within : (vcpus : List Vcpu) (rounds : ℕ) (statements : List Statement) (events : List Event)
    → IsScript (names_of vcpus) rounds statements events → AreWithin (length vcpus) events
script_within vcpus rounds statements events script =
    subst (λ count. AreWithin count events) (length-map vcpus (λ (vcpu : Vcpu). vcpu.name))
    (events_within (names_of vcpus) statements events script.each)

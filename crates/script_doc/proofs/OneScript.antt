-- A text states one script at most, and has one first fault at most: one of the two, and never both.
use Rattle.std.proofs.Common.{◌≡◌, ◌⊎◌, inl, inr, ℕ, suc, ◌*◌, ◌<◌, ◌≤◌, Bool, true, false, cond, IsTrue, List, [], ◌∷◌, ◌++◌, length, length-append, Some, None, Result, Ok, Err, IfOk, IfErr, refl, sym, ap, ◌∙◌, subst, arith}
use Rattle.std.proofs.lemmas.List.Elements.{All-head, All-tail}
use Rattle.std.proofs.lemmas.List.Sums.{sum_by-append}
use Rattle.std.specs.List.{All}
use Rattle.tab_core.specs.declared.TheConstants.{MAX_CHANGES, MAX_EVENTS, ROUND}
use Rattle.tab_core.specs.declared.vcpu.Vcpu.{Vcpu}
use Rattle.vcpu_names.specs.Names.{names_of}
use Rattle.script_doc.specs.Events.{IsEvent, is_change}
use Rattle.script_doc.specs.Script.{AreEvents, AreInRun, AreWithin, IsScript, NeverFall, changes_in}
use Rattle.script_doc.specs.ScriptFaults.{HasFault, IsBad, NamesNobody, BreaksLimit, IsFirstFault, broken_limit, last_tick, left_by}
use Rattle.script_doc.specs.Statements.{Statement}
use Rattle.script_doc.specs.declared.event.Event.{Event}
use Rattle.script_doc.specs.declared.script_fault.ScriptFault.{ScriptFault}
use Rattle.script_doc.specs.declared.script_fault.ScriptFault.TheVariants.{NoMemory}
use Rattle.script_doc.proofs.EventsLemmas.{AreDistinct, one_event}
use Rattle.script_doc.proofs.ScriptLemmas.{IsInLimits, script_within, unbroken}
use Rattle.script_doc.proofs.StatementLemmas.{splits}

-- ---- one script

-- statements are one list of events at most
one_list : (names : List (List ℕ)) (statements : List Statement) (us ws : List Event) → AreDistinct names
    → AreEvents names statements us → AreEvents names statements ws → us ≡ ws
one_list names [] [] [] distinct of_us of_ws = refl
one_list names [] (u ∷ us) ws distinct of_us of_ws = absurd of_us
one_list names [] [] (w ∷ ws) distinct of_us of_ws = absurd of_ws
one_list names (statement ∷ statements) [] ws distinct of_us of_ws = absurd of_us
one_list names (statement ∷ statements) (u ∷ us) [] distinct of_us of_ws = absurd of_ws
one_list names (statement ∷ statements) (u ∷ us) (w ∷ ws) distinct of_us of_ws =
    let first : u ≡ w = one_event names statement.words u w distinct of_us.0 of_ws.0 in
    let rest : us ≡ ws = one_list names statements us ws distinct of_us.1 of_ws.1 in
    cc

-- a text states one script at most
pub one_script : (names : List (List ℕ)) (rounds : ℕ) (statements : List Statement)
    (events others : List Event) → AreDistinct names → IsScript names rounds statements events
    → IsScript names rounds statements others → events ≡ others
one_script names rounds statements events others distinct is also =
    one_list names statements events others distinct is.each also.each

-- ---- a script has no fault

-- the events of a script before, at and after a statement
record Split (names : List (List ℕ)) (front : List Statement) (statement : Statement)
    (events : List Event) : Type 0 where
  pub before : List Event
  pub event : Event
  pub behind : List Event
  pub whole : events ≡ before ++ event ∷ behind
  pub are : AreEvents names front before
  pub is : IsEvent names statement.words event

-- a statement in the midst of others is an event in the midst of theirs
split_at : (names : List (List ℕ)) (front : List Statement) (statement : Statement)
    (back : List Statement) (events : List Event) → AreEvents names (front ++ statement ∷ back) events
    → Split names front statement events
split_at names [] statement back [] are = absurd are
split_at names [] statement back (event ∷ events) are =
    record { before = []; event = event; behind = events; whole = refl; are = tt; is = are.0 }
split_at names (first ∷ front) statement back [] are = absurd are
split_at names (first ∷ front) statement back (event ∷ events) are =
    let rest = split_at names front statement back events are.1 in
    record {
      before = event ∷ rest.before;
      event = rest.event;
      behind = rest.behind;
      whole = ap (λ es. event ∷ es) rest.whole;
      are = (are.0, rest.are);
      is = rest.is;
    }

-- ticks that never fall don't fall after the first one
never_fall-tail : (event : Event) (events : List Event) → NeverFall (event ∷ events) → NeverFall events
never_fall-tail event events order = λ i j d low high. order (suc i) (suc j) d (omega arith) (omega arith)

-- an event's tick is at least that of the event before it
after_last : (before : List Event) (event : Event) (behind : List Event)
    → NeverFall (before ++ event ∷ behind) → last_tick before ≤ event.tick
after_last [] event behind order = omega arith
after_last (first ∷ []) event behind order = order 0 1 event (omega arith) (omega arith)
after_last (first ∷ next ∷ before) event behind order =
    after_last (next ∷ before) event behind
    (never_fall-tail first (next ∷ before ++ event ∷ behind) order)

-- what holds of all events holds of one in their midst
in_middle : (P : Event → Type 0) (before : List Event) (event : Event) (behind : List Event)
    → All P (before ++ event ∷ behind) → P event
in_middle P [] event behind all = All-head P event behind all
in_middle P (first ∷ before) event behind all =
    in_middle P before event behind (All-tail P first (before ++ event ∷ behind) all)

-- a change among at most 15 has fewer before it
fewer_changes : (before : List Event) (event : Event) (behind : List Event) (change : Bool)
    → is_change event.act ≡ change → changes_in (before ++ event ∷ behind) ≤ MAX_CHANGES → IsTrue change
    → changes_in before < MAX_CHANGES
fewer_changes before event behind true is few real =
    let all = sum_by-append (λ (e : Event). cond (is_change e.act) 1 0) before (event ∷ behind) in
    let here = sum_by-append (λ (e : Event). cond (is_change e.act) 1 0) (event ∷ []) behind in
    let one : cond {A = ℕ} (is_change event.act) 1 0 ≡ 1 = rw is refl in
    omega arith
fewer_changes before event behind false is few real = absurd (cc)

-- each event of a script is in the limits after those before it
each_in_limits : (rounds : ℕ) (before : List Event) (event : Event) (behind : List Event)
    → NeverFall (before ++ event ∷ behind) → AreInRun rounds (before ++ event ∷ behind)
    → length (before ++ event ∷ behind) ≤ MAX_EVENTS
    → changes_in (before ++ event ∷ behind) ≤ MAX_CHANGES → IsInLimits rounds (left_by before) event
each_in_limits rounds before event behind order in_time few few_changes = record {
  order = after_last before event behind order;
  in_time = in_middle (λ (e : Event). e.tick < rounds * ROUND) before event behind in_time;
  few = (let size = length-append before (event ∷ behind) in omega arith);
  few_changes = fewer_changes before event behind (is_change event.act) refl few_changes;
}

-- no event of a script breaks a limit
limit_or_script : (names : List (List ℕ)) (rounds : ℕ) (front : List Statement) (statement : Statement)
    (back : List Statement) (events others : List Event) (event : Event) (fault : ScriptFault)
    → AreDistinct names → IsScript names rounds (front ++ statement ∷ back) events
    → AreEvents names front others → IsEvent names statement.words event
    → broken_limit rounds (left_by others) statement.number event ≡ Some fault → ⊥
limit_or_script names rounds front statement back events others event fault distinct script are is broken =
    let split = split_at names front statement back events script.each in
    let same : others ≡ split.before = one_list names front others split.before distinct are split.are in
    let here : event ≡ split.event = one_event names statement.words event split.event distinct is split.is in
    let limits = each_in_limits rounds split.before split.event split.behind
    (subst NeverFall split.whole script.order) (subst (AreInRun rounds) split.whole script.in_time)
    (subst (λ (es : List Event). length es ≤ MAX_EVENTS) split.whole script.few)
    (subst (λ (es : List Event). changes_in es ≤ MAX_CHANGES) split.whole script.few_changes) in
    let none : broken_limit rounds (left_by split.before) statement.number split.event ≡ None =
    unbroken rounds (left_by split.before) statement.number split.event limits in
    let there : broken_limit rounds (left_by split.before) statement.number split.event ≡ Some fault =
    subst (λ (e : Event). broken_limit rounds (left_by split.before) statement.number e ≡ Some fault) here
    (subst (λ (es : List Event). broken_limit rounds (left_by es) statement.number event ≡ Some fault)
    same broken) in
    let both : Some fault ≡ None = sym there ∙ none in
    absurd cc

-- a statement of a script has no fault
fault_or_event : (names : List (List ℕ)) (rounds : ℕ) (front : List Statement) (statement : Statement)
    (back : List Statement) (events others : List Event) (fault : ScriptFault) → AreDistinct names
    → IsScript names rounds (front ++ statement ∷ back) events → AreEvents names front others
    → HasFault names rounds others statement fault → ⊥
fault_or_event names rounds front statement back events others fault distinct script are (IsBad none) =
    let split = split_at names front statement back events script.each in
    none names split.event split.is
fault_or_event names rounds front statement back events others fault distinct script are
    (NamesNobody unknown) =
    let split = split_at names front statement back events script.each in
    unknown.unknown split.event split.is
fault_or_event names rounds front statement back events others fault distinct script are
    (BreaksLimit event fault' is broken) =
    limit_or_script names rounds front statement back events others event fault' distinct script are is broken

-- a text that states a script has no first fault
pub fault_or_script : (names : List (List ℕ)) (rounds : ℕ) (statements : List Statement)
    (fault : ScriptFault) (events : List Event) → AreDistinct names
    → IsFirstFault names rounds statements fault → IsScript names rounds statements events → ⊥
fault_or_script names rounds statements fault events distinct first script =
    fault_or_event names rounds first.front first.statement first.back events first.events fault distinct
    (subst (λ ss. IsScript names rounds ss events) first.whole script) first.before.each first.here

-- ---- one fault

-- a statement has one first fault at most
one_here : (names : List (List ℕ)) (rounds : ℕ) (events : List Event) (statement : Statement)
    (fault other : ScriptFault) → AreDistinct names → HasFault names rounds events statement fault
    → HasFault names rounds events statement other → fault ≡ other
one_here names rounds events statement fault other distinct (IsBad none) (IsBad also) = refl
one_here names rounds events statement fault other distinct (IsBad none) (NamesNobody unknown) =
    absurd (none unknown.others unknown.event unknown.line)
one_here names rounds events statement fault other distinct (IsBad none) (BreaksLimit event g is broken) =
    absurd (none names event is)
one_here names rounds events statement fault other distinct (NamesNobody unknown) (IsBad none) =
    absurd (none unknown.others unknown.event unknown.line)
one_here names rounds events statement fault other distinct (NamesNobody unknown) (NamesNobody also) = refl
one_here names rounds events statement fault other distinct (NamesNobody unknown)
    (BreaksLimit event g is broken) =
    absurd (unknown.unknown event is)
one_here names rounds events statement fault other distinct (BreaksLimit event f is broken) (IsBad none) =
    absurd (none names event is)
one_here names rounds events statement fault other distinct (BreaksLimit event f is broken)
    (NamesNobody unknown) =
    absurd (unknown.unknown event is)
one_here names rounds events statement fault other distinct (BreaksLimit event f is broken)
    (BreaksLimit event' g is' broken') =
    let same : event' ≡ event = one_event names statement.words event' event distinct is' is in
    let also : broken_limit rounds (left_by events) statement.number event ≡ Some g =
    subst (λ (e : Event). broken_limit rounds (left_by events) statement.number e ≡ Some g) same broken' in
    let both : Some f ≡ Some g = sym broken ∙ also in
    cc

-- two first faults at one statement are one
one_there : (names : List (List ℕ)) (rounds : ℕ) (statements : List Statement) (fault other : ScriptFault)
    (first : IsFirstFault names rounds statements fault) (also : IsFirstFault names rounds statements other)
    → AreDistinct names → first.front ≡ also.front → first.statement ≡ also.statement → fault ≡ other
one_there names rounds statements fault other first also distinct fronts same =
    let are : AreEvents names also.front first.events =
    subst (λ ss. AreEvents names ss first.events) fronts first.before.each in
    let events : first.events ≡ also.events =
    one_list names also.front first.events also.events distinct are also.before.each in
    one_here names rounds also.events also.statement fault other distinct
    (subst (λ (es : List Event). HasFault names rounds es also.statement fault) events
    (subst (λ (s : Statement). HasFault names rounds first.events s fault) same first.here)) also.here

-- a text has one first fault at most, since what is before a fault is a script
pub one_fault : (names : List (List ℕ)) (rounds : ℕ) (statements : List Statement)
    (fault other : ScriptFault) → AreDistinct names → IsFirstFault names rounds statements fault
    → IsFirstFault names rounds statements other → fault ≡ other
one_fault names rounds statements fault other distinct first also =
    elim (splits first.front also.front first.statement also.statement first.back also.back
    (sym first.whole ∙ also.whole)) [
      | inl same ↦ one_there names rounds statements fault other first also distinct same.0 same.1
      | inr (inl earlier) ↦ absurd (fault_or_event names rounds first.front first.statement earlier.more
          also.events first.events fault distinct
          (subst (λ ss. IsScript names rounds ss also.events) earlier.whole also.before)
          first.before.each first.here)
      | inr (inr later) ↦ absurd (fault_or_event names rounds also.front also.statement later.more
          first.events also.events other distinct
          (subst (λ ss. IsScript names rounds ss first.events) later.whole first.before)
          also.before.each also.here)
    ]

-- ---- the answers of a reader of scripts

-- a script that is read names vCPUs of the host
pub known_vcpus : (vcpus : List Vcpu) (rounds : ℕ) (statements : List Statement)
    (result : Result (List Event) ScriptFault) → IfOk result (IsScript (names_of vcpus) rounds statements)
    → IfOk result (AreWithin (length vcpus))
known_vcpus vcpus rounds statements (Ok events) is = script_within vcpus rounds statements events is
known_vcpus vcpus rounds statements (Err fault) is = is

-- a text that states a script is read as it, but when memory runs out
pub script_is_read : (names : List (List ℕ)) (rounds : ℕ) (statements : List Statement)
    (result : Result (List Event) ScriptFault) (events : List Event) → AreDistinct names
    → IfOk result (IsScript names rounds statements)
    → IfErr result (λ fault. (fault ≡ NoMemory) ⊎ IsFirstFault names rounds statements fault)
    → IsScript names rounds statements events → (result ≡ Ok events) ⊎ (result ≡ Err NoMemory)
script_is_read names rounds statements (Ok read) events distinct ok fault is =
    inl (ap Ok (one_script names rounds statements read events distinct ok is))
script_is_read names rounds statements (Err refused) events distinct ok (inl memory) is =
    inr (ap Err memory)
script_is_read names rounds statements (Err refused) events distinct ok (inr first) is =
    absurd (fault_or_script names rounds statements refused events distinct first is)

-- a first fault is answered, but when memory runs out
pub fault_is_answered : (names : List (List ℕ)) (rounds : ℕ) (statements : List Statement)
    (result : Result (List Event) ScriptFault) (fault : ScriptFault) → AreDistinct names
    → IfOk result (IsScript names rounds statements)
    → IfErr result (λ fault. (fault ≡ NoMemory) ⊎ IsFirstFault names rounds statements fault)
    → IsFirstFault names rounds statements fault → (result ≡ Err fault) ⊎ (result ≡ Err NoMemory)
fault_is_answered names rounds statements (Ok read) fault distinct ok err first =
    absurd (fault_or_script names rounds statements fault read distinct first ok)
fault_is_answered names rounds statements (Err refused) fault distinct ok (inl memory) first =
    inr (ap Err memory)
fault_is_answered names rounds statements (Err refused) fault distinct ok (inr other) first =
    inl (ap Err (one_fault names rounds statements refused fault distinct other first))

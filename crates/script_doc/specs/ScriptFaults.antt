-- The first fault of a text that is no script: that of the first statement with one, and of its faults
-- the first in their order.
use Rattle.std.specs.Prelude.{◌≡◌, ℕ, ◌*◌, ◌&&◌, nat_lt, nat_le, if◌then◌else◌, List, [], ◌∷◌, ◌++◌, length, Option, Some, None}
use Rattle.tab_core.specs.declared.TheConstants.{ROUND}
use Rattle.script_doc.specs.Events.{IsEvent, IsNoLine, IsUnknownLine, is_change}
use Rattle.script_doc.specs.Script.{IsScript, changes_in}
use Rattle.script_doc.specs.Statements.{Statement}
use Rattle.script_doc.specs.declared.event.Event.{Event}
use Rattle.script_doc.specs.declared.script_fault.ScriptFault.{ScriptFault}
use Rattle.script_doc.specs.declared.script_fault.ScriptFault.TheVariants.{BadLine, UnknownName, OutOfOrder, LateEvent, TooManyEvents, TooManyChanges}

-- what the events before a line leave: the tick of the last, how many they are, and how many are changes
pub record Before : Type 0 where
  pub tick : ℕ
  pub count : ℕ
  pub changes : ℕ

-- the tick of the last event, or 0 where there is none
abbrev pub last_tick : List Event → ℕ
last_tick [] = 0
last_tick (event ∷ []) = event.tick
last_tick (event ∷ next ∷ events) = last_tick (next ∷ events)

-- what these events leave
abbrev pub left_by : List Event → Before
left_by events = record { tick = last_tick events; count = length events; changes = changes_in events }

-- the first limit that an event on this line breaks, in the order of the faults; none where it is in all
abbrev pub broken_limit : ℕ → Before → ℕ → Event → Option ScriptFault
broken_limit rounds before line event =
    if nat_lt event.tick before.tick then Some (OutOfOrder line)
    else (if nat_le (rounds * ROUND) event.tick then Some (LateEvent line)
    else (if nat_le 65535 before.count then Some (TooManyEvents line)
    else (if is_change event.act && nat_le 15 before.changes then Some (TooManyChanges line)
    else None)))

-- the first fault of a statement after these events: it is no event, a name of it is no vCPU's, or it is an
-- event that breaks a limit
pub data HasFault (names : List (List ℕ)) (rounds : ℕ) (events : List Event) (statement : Statement)
    : ScriptFault → Type 0 where
  IsBad : IsNoLine statement.words → HasFault names rounds events statement (BadLine statement.number)
  NamesNobody : IsUnknownLine names statement.words
      → HasFault names rounds events statement (UnknownName statement.number)
  BreaksLimit : (event : Event) (fault : ScriptFault) → IsEvent names statement.words event
      → broken_limit rounds (left_by events) statement.number event ≡ Some fault
      → HasFault names rounds events statement fault

-- the statements before a statement are a script, and it has this as its first fault
pub record IsFirstFault (names : List (List ℕ)) (rounds : ℕ) (statements : List Statement)
    (fault : ScriptFault) : Type 0 where
  pub front : List Statement
  pub statement : Statement
  pub back : List Statement
  pub events : List Event
  pub whole : statements ≡ front ++ statement ∷ back
  pub before : IsScript names rounds front events
  pub here : HasFault names rounds events statement fault

-- Scripts: the events that the statements of a text are.
use Rattle.std.specs.Prelude.{ℕ, ◌*◌, ◌<◌, ◌≤◌, List, [], ◌∷◌, length, count_by}
use Rattle.std.specs.List.{All, AllPairs}
use Rattle.tab_core.specs.declared.TheConstants.{ROUND}
use Rattle.script_doc.specs.Events.{IsActWithin, IsEvent, is_change}
use Rattle.script_doc.specs.Statements.{Statement}
use Rattle.script_doc.specs.declared.event.Event.{Event}

-- the ticks never fall
abbrev pub NeverFall : List Event → Type 0
NeverFall events = AllPairs (λ earlier later. earlier.tick ≤ later.tick) events

-- how many of the events are changes of reservations
abbrev pub changes_in : List Event → ℕ
changes_in events = count_by (λ event. is_change event.act) events

-- each vCPU that the events name is below this count
abbrev pub AreWithin : ℕ → List Event → Type 0
AreWithin count events = All (λ event. IsActWithin count event.act) events

-- each event is before the end of a run of so many rounds
abbrev pub AreInRun : ℕ → List Event → Type 0
AreInRun rounds events = All (λ event. event.tick < rounds * ROUND) events

-- each statement is the event at its place
abbrev pub AreEvents : List (List ℕ) → List Statement → List Event → Type 0
AreEvents names [] [] = Unit {0}
AreEvents names (statement ∷ statements) (event ∷ events) =
    IsEvent names statement.words event × AreEvents names statements events
AreEvents names [] (event ∷ events) = ⊥
AreEvents names (statement ∷ statements) [] = ⊥

-- the statements are this script of a host whose vCPUs have these names, for a run of so many rounds: 65535 events at
-- most, of which 15 may be changes, in the order of their ticks, which may be equal
pub record IsScript (names : List (List ℕ)) (rounds : ℕ) (statements : List Statement)
    (events : List Event) : Type 0 where
  pub each : AreEvents names statements events
  pub order : NeverFall events
  pub in_time : AreInRun rounds events
  pub few : length events ≤ 65535
  pub few_changes : changes_in events ≤ 15

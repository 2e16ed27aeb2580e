-- What each kind of step claims of the view before, the number found or stored, and the view after, and
-- that a step keeps the rule.
-- Source: the rules of this project.
use Rattle.std.specs.Prelude.{◌≡◌, ◌≢◌, ℕ, ◌-◌, ◌^◌, ◌<◌, ◌≤◌, ◌⊎◌, true, false, List, Option, Some, slice_get, slice_index, slice_set}
use mathlib.Core.Option.{some}
use lib.ListN.{get_elem?}
use Rattle.tab_core.specs.declared.entry.Entry.{Entry}
use Rattle.round_words.specs.declared.view.Part.{Part}
use Rattle.round_words.specs.declared.view.View.{View}
use Rattle.round_words.specs.Views.{just_started, part, with_part, entry, with_entry}
use Rattle.round_words.specs.Changes.{PostsFloor, SeesCount, HearsClock, AppendsStint}
use Rattle.round_words.specs.Rule.{decision_word, KeepsRule}
use Rattle.round_words.specs.Shown.{IsSight, IsHeardClock}
use Rattle.round_words.specs.Inside.Known.{hears_all_known}

-- `start`, of the lag, the cores and the events
abbrev pub StartClaim : ℕ × ℕ × ℕ → View → ℕ → View → Type 0
StartClaim x v n w = w ≡ just_started x.0 x.1 x.2

-- the load of `meet`
abbrev pub MeetClaim : View → ℕ → View → Type 0
MeetClaim v n w = w ≡ v

-- `post`, of the floor
abbrev pub PostClaim : ℕ → View → ℕ → View → Type 0
PostClaim floor v n w = PostsFloor v w floor

-- `see`, of the core
abbrev pub SeeClaim : ℕ → View → ℕ → View → Type 0
SeeClaim c v n w = SeesCount v w c n × IsSight v c n

-- `clock_of`, of the actor and the other core
abbrev pub HearClaim : ℕ × ℕ → View → ℕ → View → Type 0
HearClaim x v n w = HearsClock v w x.0 x.1 n × IsHeardClock v x.0 x.1 n

-- `hear_floor`, of the actor, the tick at which it hears that the cores are, and their count
abbrev pub FloorClaim : ℕ × ℕ × ℕ → View → ℕ → View → Type 0
FloorClaim x v n w = w ≡ with_part v x.0 (hears_all_known x.0 x.1 x.2 (part v x.0))

-- what a core expects of the word of round k: 0, or its own entry of four rounds before
abbrev pub IsExpected : Part → ℕ → ℕ → Type 0
IsExpected p k old = (k < 4 → old ≡ 0)
    × ((e : Entry) → 4 ≤ k → slice_get p.entries (k - 4) ≡ Some e → old ≡ decision_word (k - 4) e.used)

-- `decide`, of the core, the round, the seen count and the word expected. The word found was that one, and
-- the core won; or it was that of the round, with the count u
abbrev pub DecideClaim : ℕ × ℕ × ℕ × ℕ → View → ℕ → View → Type 0
DecideClaim x v n w =
    ((n ≡ x.3) × (x.2 ≤ v.events)
    × (w ≡ with_part v x.0 (with_entry (part v x.0) (entry x.1 x.2 x.2 true))))
    ⊎ ((u : ℕ) × (n ≢ x.3) × (n ≡ decision_word x.1 u) × (u ≤ v.events)
    × (w ≡ with_part v x.0 (with_entry (part v x.0) (entry x.1 u x.2 false))))

-- `advance`, of the core, the end and who ran
abbrev pub AdvanceClaim : ℕ × ℕ × Option ℕ → View → ℕ → View → Type 0
AdvanceClaim x v n w = AppendsStint v w x.0 x.1 x.2

-- where the view is started, it has a lag
abbrev pub HasLag : View → Type 0
HasLag v = v.started ≡ true → 0 < v.lag

-- whatever the board is when the word i becomes f of what it was, the seat has a new view that keeps the
-- rule, and `claim` holds of the number found and of that view
abbrev pub StepKeepsRule : ℕ → View → ℕ → (ℕ → ℕ) → (ℕ → View → Type 0) → Type 0
StepKeepsRule id v i f claim = (words : List ℕ) (views : List View) → KeepsRule words views
    → get_elem? views id ≡ some v → slice_index words i < 2 ^ 64
    → (w : View) × KeepsRule (slice_set words i (f (slice_index words i))) (slice_set views id w)
    × claim (slice_index words i) w

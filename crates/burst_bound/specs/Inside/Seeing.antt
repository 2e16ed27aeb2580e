-- When the stints of cores have seen an event.
use Rattle.std.specs.Prelude.{◌≡◌, ℕ, ◌<◌, ◌≤◌, max, List, Some, length, slice_get}
use Rattle.tab_core.specs.declared.stint.Stint.{Stint}
use Rattle.table_form.specs.Running.State.{State, CoreState, IsCore}

-- each of the stints that goes beyond the tick has seen the event
abbrev pub SeesFrom : ℕ → ℕ → List Stint → Type 0
SeesFrom event x stints = (k : ℕ) (st : Stint) → slice_get stints k ≡ Some st → x < st.end → event < st.seen

-- stints one after the other, whose seen counts never fall
pub record AreInOrder (stints : List Stint) : Type 0 where
  pub ends : (j k : ℕ) (s t : Stint) → j ≤ k → slice_get stints j ≡ Some s → slice_get stints k ≡ Some t
      → s.end ≤ t.end
  pub risen : (j k : ℕ) (s t : Stint) → j ≤ k → slice_get stints j ≡ Some s → slice_get stints k ≡ Some t
      → s.seen ≤ t.seen

-- the first n stints haven't seen the event, and the others have
pub record IsUnseenCount (event : ℕ) (stints : List Stint) (n : ℕ) : Type 0 where
  pub within : n ≤ length stints
  pub unseen : (k : ℕ) (s : Stint) → k < n → slice_get stints k ≡ Some s → s.seen ≤ event
  pub seen : (k : ℕ) (s : Stint) → n ≤ k → slice_get stints k ≡ Some s → event < s.seen

-- the tick is the least from which on the first n cores' stints have seen the event
pub record IsSeenBelow (s : State) (n event x : ℕ) : Type 0 where
  pub sees : (c : ℕ) (core : CoreState) → c < n → IsCore s c core → SeesFrom event x core.stints
  pub least : (y : ℕ) → ((c : ℕ) (core : CoreState) → c < n → IsCore s c core → SeesFrom event y core.stints)
      → x ≤ y

-- from the tick `new` on the stints have seen the event, and what was seen from the tick `old` on; it is the least
pub record IsRaised (event : ℕ) (stints : List Stint) (old new : ℕ) : Type 0 where
  pub here : ℕ
  pub sees : SeesFrom event here stints
  pub least : (x : ℕ) → SeesFrom event x stints → here ≤ x
  pub is : new ≡ max old here

-- How long a vCPU of a plan may wait for a slot, where the plan's round is repeated without an end.
-- Source: the promise of a latency of the Tableau scheduler (M. Vanga, A. Gujarati, B. B. Brandenburg,
-- EuroSys 2018), here over the segments of a text.
use Rattle.std.specs.Prelude.{◌≡◌, ℕ, zero, suc, ◌*◌, ◌-◌, ◌%◌, ◌<◌, ◌≤◌, ◌⊎◌, ◌==◌, ◌&&◌, Bool, false, nat_lt, nat_le, max, if◌then◌else◌, List}
use Rattle.std.specs.List.{list_any}
use Rattle.tab_core.specs.declared.TheConstants.{ROUND}
use Rattle.view_doc.specs.declared.view.Stretch.{Stretch}
use Rattle.view_doc.specs.declared.view.Use.{Use}
use Rattle.view_doc.specs.declared.view.Use.TheVariants.{Idle, Slot, Shared}

-- whoever has a stretch is this vCPU in a slot of its own
abbrev pub is_slot_of : ℕ → Use → Bool
is_slot_of v Idle = false
is_slot_of v (Slot w) = v == w
is_slot_of v (Shared w) = false

-- the segment gives the vCPU this place of the round
abbrev pub serves : ℕ → ℕ → Stretch → Bool
serves v place s = is_slot_of v s.by && (nat_le s.from place && nat_lt place s.end)

-- in the endless repetition of the round the tick is in a slot of the vCPU
abbrev pub is_served : List Stretch → ℕ → ℕ → Bool
is_served slots v x = list_any (serves v (x % ROUND)) slots

-- how many ticks in a row, right before this one, have no slot
unfoldable pub waited : (ℕ → Bool) → ℕ → ℕ
waited served zero = 0
waited served (suc x) = if served x then 0 else suc (waited served x)

-- the most ticks in a row below this one that have no slot
unfoldable pub longest : (ℕ → Bool) → ℕ → ℕ
longest served zero = 0
longest served (suc x) = max (longest served x) (waited served (suc x))

-- the longest wait: the most ticks in a row without a slot in two rounds, since the repetition has no
-- longer ones; for a vCPU without any slot these are both rounds
unfoldable pub wait_of : List Stretch → ℕ → ℕ
wait_of slots v = longest (is_served slots v) (2 * ROUND)

-- ---- what such a wait is in the endless repetition

-- from the first to the last of these ticks the vCPU has no slot
pub record IsSlotWait (slots : List Stretch) (v first last : ℕ) : Type 0 where
  pub order : first ≤ last
  pub unserved : (x : ℕ) → first ≤ x → x ≤ last → is_served slots v x ≡ false

-- a wait of so many ticks ends right before this tick of the first two rounds
pub record EndsAt (slots : List Stretch) (v ticks mark : ℕ) : Type 0 where
  pub within : mark ≤ 2 * ROUND
  pub since : ticks ≤ mark
  pub unserved : (x : ℕ) → mark - ticks ≤ x → x < mark → is_served slots v x ≡ false

-- no wait has more ticks, and where this isn't 0 some wait has as many
pub record IsLongestWait (slots : List Stretch) (v ticks : ℕ) : Type 0 where
  pub most : (first last : ℕ) → IsSlotWait slots v first last → suc last - first ≤ ticks
  pub reached : (ticks ≡ 0)
      ⊎ ((first : ℕ) × (last : ℕ) × IsSlotWait slots v first last × (suc last - first ≡ ticks))

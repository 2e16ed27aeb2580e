-- How two rounds of a plan are walked from segment to segment to find the longest waits.
use Rattle.std.specs.Prelude.{◌≡◌, ℕ, ◌+◌, ◌-◌, ◌*◌, ◌<◌, ◌≤◌, ◌&&◌, Bool, nat_le, nat_lt, min, max, if◌then◌else◌, List}
use Rattle.std.specs.List.{list_any}
use Rattle.std.specs.List.Sorted.{IsNonDecreasingBy}
use Rattle.tab_core.specs.declared.TheConstants.{ROUND}
use Rattle.view_doc.specs.declared.view.Stretch.{Stretch}
use Rattle.view_table.specs.Waits.{is_slot_of, longest, serves, waited}

-- no segment begins before the one before it
abbrev pub SegmentsRise : List Stretch → Type 0
SegmentsRise order = IsNonDecreasingBy (λ (s : Stretch). s.from) order

-- the segments in the order of their begins, which give every vCPU the same places
pub record AreByBegin (slots order : List Stretch) : Type 0 where
  pub rise : SegmentsRise order
  pub same : (v place : ℕ) → list_any (serves v place) order ≡ list_any (serves v place) slots

-- the segment is a slot of the vCPU with a place of the round
abbrev pub is_slot_in_round : ℕ → Stretch → Bool
is_slot_in_round v s = is_slot_of v s.by && nat_lt s.from (min s.end ROUND)

-- where the slots so far end, and the longest wait before there, once the segment is passed in the round
-- that begins at `base`
abbrev pub next_end : ℕ → ℕ → Stretch → ℕ → ℕ
next_end v base s end = if is_slot_in_round v s then max end (base + min s.end ROUND) else end

abbrev pub next_wait : ℕ → ℕ → Stretch → ℕ → ℕ → ℕ
next_wait v base s end wait = if is_slot_in_round v s then max wait (base + s.from - end) else wait

-- the tick at which that wait ends
abbrev pub next_mark : ℕ → ℕ → Stretch → ℕ → ℕ → ℕ → ℕ
next_mark v base s end wait mark = if is_slot_in_round v s && nat_lt wait (base + s.from - end) then base + s.from else mark

-- the tick at which that wait ends, after both rounds
abbrev pub last_mark : ℕ → ℕ → ℕ → ℕ
last_mark end wait mark = if nat_lt wait (2 * ROUND - end) then 2 * ROUND else mark

-- the segment gives the vCPU this tick of the round that begins at `base`
abbrev pub gives : ℕ → ℕ → ℕ → Stretch → Bool
gives v base x s = is_slot_of v s.by && (nat_le (base + s.from) x && nat_lt x (base + s.end))

-- The longest wait up to a tick is known, and a tick at which such a wait ends. None goes on there, and what comes
-- after in the round that begins at `base` is in the segments that are left.
pub record IsWalked (served : ℕ → Bool) (rest : List Stretch) (v base end wait mark : ℕ) : Type 0 where
  pub within : end ≤ base + ROUND
  pub most : wait ≡ longest served end
  pub met : waited served end ≡ 0
  pub marked : wait ≤ waited served mark
  pub early : mark ≤ base + ROUND
  pub behind : (x : ℕ) → end ≤ x → x < base + ROUND → served x ≡ list_any (gives v base x) rest

-- Marks of ticks: for each vCPU words with a bit for each tick of a round, which is 1 where the vCPU
-- is at the tick in one of some rows.
use Rattle.std.specs.Prelude.{◌≡◌, ◌==◌, ℕ, ◌+◌, ◌*◌, ◌/◌, ◌%◌, ◌<◌, Bool, false, true, List, Some, slice_get, slice_index}
use Rattle.std.specs.Int.{bit_at}
use Rattle.table_form.specs.Tables.Rows.{Row}
use Rattle.table_form.specs.Tables.Serves.{owner_at}
use Rattle.table_check.specs.declared.marks.TheConstants.{WORDS}

-- whether the tick is marked for the vCPU
abbrev pub is_marked : List ℕ → ℕ → ℕ → Bool
is_marked marks v x = bit_at (slice_index marks (v * WORDS + x / 64)) (x % 64) == 1

-- what is marked stays marked
abbrev pub KeepsMarks : List ℕ → List ℕ → Type 0
KeepsMarks old new = (v x : ℕ) → is_marked old v x ≡ true → is_marked new v x ≡ true

-- the tick wasn't marked for the vCPU, and is now
pub record IsNewMark (old new : List ℕ) (v x : ℕ) : Type 0 where
  pub was : is_marked old v x ≡ false
  pub now : is_marked new v x ≡ true

-- each tick of the row below this one was marked for its owner
abbrev pub MarksRow : Row → ℕ → List ℕ → List ℕ → Type 0
MarksRow row end old new = (v x : ℕ) → x < end → slice_get row x ≡ Some (Some v) → IsNewMark old new v x

-- each tick of each of the rows is marked for its owner
abbrev pub AreMarked : List Row → List ℕ → Type 0
AreMarked rows marks = (v x c : ℕ) → owner_at rows c x ≡ Some v → is_marked marks v x ≡ true

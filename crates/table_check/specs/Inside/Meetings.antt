-- Where two rows have one owner at one tick.
use Rattle.std.specs.Prelude.{◌≡◌, ℕ, ◌≤◌, Option, Some, None, slice_get}
use Rattle.table_form.specs.Tables.Rows.{Row}
use Rattle.table_check.specs.declared.meeting.Meeting.{Meeting}

-- the vCPU is at the tick in both rows
pub record MeetsAt (row other : Row) (v tick : ℕ) : Type 0 where
  pub here : slice_get row tick ≡ Some (Some v)
  pub there : slice_get other tick ≡ Some (Some v)

-- no vCPU is in both rows before the tick
abbrev pub MeetNoneBefore : Row → Row → ℕ → Type 0
MeetNoneBefore row other tick = (v x : ℕ) → MeetsAt row other v x → tick ≤ x

-- the first meeting of the rows, or that they have none
abbrev pub IsFirstMeeting : Row → Row → Option Meeting → Type 0
IsFirstMeeting row other None = (v x : ℕ) → MeetsAt row other v x → ⊥
IsFirstMeeting row other (Some meeting) =
    MeetsAt row other meeting.vcpu meeting.tick × MeetNoneBefore row other meeting.tick

-- Lanes while they are filled.
use Rattle.std.specs.Prelude.{◌≡◌, ℕ, ◌<◌, ◌++◌, Bool, true, false, List, [], length, slice_index_or}
use Rattle.view_doc.specs.declared.view.Use.{Use}
use Rattle.view_doc.specs.declared.view.Use.TheVariants.{Slot, Shared}
use Rattle.view_lanes.specs.declared.frame.Bar.{Bar}

-- each lane has these bars after those that it had
pub record HaveMore (more : ℕ → List Bar) (old new : List (List Bar)) : Type 0 where
  pub count : length new ≡ length old
  pub bars : (i : ℕ) → i < length old → slice_index_or new i [] ≡ slice_index_or old i [] ++ more i

-- the vCPU has it, in time that nobody used or in a slot
abbrev pub use_of : ℕ → Bool → Use
use_of vcpu true = Shared vcpu
use_of vcpu false = Slot vcpu

-- An account that takes in one more stint.
use Rattle.std.specs.Prelude.{◌≡◌, ℕ, ◌+◌, ◌<◌, ◌&&◌, not, Bool, slice_index, if◌then◌else◌}
use Rattle.tab_core.specs.declared.TheConstants.{MAX_VCPUS}
use Rattle.tab_core.specs.declared.stint.Stint.{Stint}
use Rattle.table_form.specs.Tables.Serves.{is_cell_of}
use Rattle.run_counts.specs.declared.account.CoreAccount.{CoreAccount}
use Rattle.run_counts.specs.Accounts.{idle_ticks, length_of}

-- the new account has the stint's ticks more than the old one, which `shared` says where to count
pub record Adds (old new : CoreAccount) (s : Stint) (shared : Bool) : Type 0 where
  pub slots : (v : ℕ) → v < MAX_VCPUS → slice_index new.slots v
      ≡ slice_index old.slots v + (if is_cell_of v s.ran && not shared then length_of s else 0)
  pub picked : (v : ℕ) → v < MAX_VCPUS → slice_index new.shared v
      ≡ slice_index old.shared v + (if is_cell_of v s.ran && shared then length_of s else 0)
  pub idle : new.idle ≡ old.idle + idle_ticks s

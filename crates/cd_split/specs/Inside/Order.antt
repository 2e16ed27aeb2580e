-- The cores in the order in which splitting tries them.
use Rattle.std.specs.Prelude.{◌≡◌, ◌≢◌, ℕ, ◌<◌, ◌≤◌, List, All, length, slice_index_or}
use Rattle.tab_core.specs.declared.TheConstants.{ROUND}
use Rattle.tab_core.specs.declared.piece.Piece.{Piece}
use Rattle.edf_table.specs.Load.{load_of_pieces}
use Rattle.cd_split.specs.Cores.{pieces_on}
use Rattle.cd_split.specs.Splitting.{ComesFirst}
use Rattle.cd_split.specs.declared.order.CoreLoad.{CoreLoad}

-- the core is one of these, and has this load
pub record IsCoreLoad (cores : List (List Piece)) (r : CoreLoad) : Type 0 where
  pub there : r.core < length cores
  pub value : r.load ≡ load_of_pieces (pieces_on cores r.core)
  pub small : r.load ≤ ROUND

-- the loads of all cores, in rising order, and of equal ones the lower core first
pub record IsOrderOf (cores : List (List Piece)) (order : List CoreLoad) : Type 0 where
  pub loads : All (IsCoreLoad cores) order
  pub complete : (core : ℕ) → core < length cores
      → (k : ℕ) × (k < length order) × ((d : CoreLoad) → (slice_index_or order k d).core ≡ core)
  pub rising : (j k : ℕ) (d : CoreLoad) → j < k → k < length order
      → (slice_index_or order j d).core ≢ (slice_index_or order k d).core →
      ComesFirst cores (slice_index_or order j d).core (slice_index_or order k d).core

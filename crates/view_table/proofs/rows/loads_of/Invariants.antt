use Rattle.std.proofs.Common.{◌≡◌, ℕ, ◌<◌, length, take}
use Rattle.std.specs.Prelude.{slice_index}
use Rattle.tab_core.specs.declared.TheConstants.{MAX_CORES}
use Rattle.view_table.specs.Loads.{load_of_core}
use Rattle.view_table.proofs.rows.loads_of.Given as goal

-- the loads of the slots so far
abbrev pub invariant-loop-slot : goal.invariant-loop-slot
invariant-loop-slot l = record {
  count : length l.loads ≡ MAX_CORES;
  each : (core : ℕ) → core < MAX_CORES → slice_index l.loads core ≡ load_of_core (take l.slot-index l.slots) core;
}

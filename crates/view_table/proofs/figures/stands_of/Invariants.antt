use Rattle.std.proofs.Common.{◌≡◌, ℕ, ◌+◌, ◌*◌, ◌<◌, take, false, get_or, length}
use Rattle.std.specs.List.{list_any}
use Rattle.tab_core.specs.declared.TheConstants.{MAX_CORES}
use Rattle.view_table.specs.Loads.{stands_there}
use Rattle.view_table.proofs.figures.stands_of.Given as goal

-- the cores of the slots so far are put
abbrev pub invariant-loop-slot : goal.invariant-loop-slot
invariant-loop-slot l = record {
  size : length l.grid.items ≡ l.count * MAX_CORES;
  cells : (v core : ℕ) → v < l.count → core < MAX_CORES
      → get_or l.grid.items (v * MAX_CORES + core) false ≡ list_any (stands_there v core) (take l.slot-index l.slots);
}

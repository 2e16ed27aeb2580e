use Rattle.std.proofs.Common.{◌≡◌, length}
use Rattle.tab_core.specs.declared.TheConstants.{MAX_VCPUS}
use Rattle.table_check.proofs.OwnersLemmas.{HasFirstOwners}
use Rattle.table_check.proofs.owners.owners_in.Given as goal

-- the set has the owners of the segments so far
abbrev pub invariant-loop-segment : goal.invariant-loop-segment
invariant-loop-segment l = record {
  size : length l.owners ≡ MAX_VCPUS;
  first : HasFirstOwners l.segments l.segment-index l.owners;
}

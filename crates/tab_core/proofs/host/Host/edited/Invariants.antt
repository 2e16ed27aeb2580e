use Rattle.std.proofs.Common.{◌≡◌, length, take}
use Rattle.tab_core.specs.Edits.{edited, reservations_of}
use Rattle.tab_core.proofs.host.Host.edited.Given as goal

-- the edits so far are applied
abbrev pub invariant-loop-edit : goal.invariant-loop-edit
invariant-loop-edit l = record {
  size : length l.reservations.items ≡ length l.vcpus;
  edits : l.reservations.items ≡ edited (reservations_of l.vcpus) (take l.edit-index l.edits);
}

use Rattle.std.proofs.Common.{◌≡◌, drop}
use Rattle.view_table.specs.Diff.{same_slots}
use Rattle.view_table.proofs.diff.same_slots.Given as goal

-- what is left decides
abbrev pub invariant-loop-at : goal.invariant-loop-at
invariant-loop-at l = same_slots l.names l.others l.old l.new
    ≡ same_slots l.names l.others (drop l.at l.old) (drop l.at l.new)

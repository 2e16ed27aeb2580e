use Rattle.std.proofs.Common.{sym}
use Rattle.view_table.proofs.DiffLemmas.{same_slots-lengths}
use Rattle.view_table.proofs.diff.same_slots.Goals as goal

pub returns-then-old-new : goal.returns-then-old-new
returns-then-old-new c = sym (same_slots-lengths _ _ _ _ c.if-old-new.true)

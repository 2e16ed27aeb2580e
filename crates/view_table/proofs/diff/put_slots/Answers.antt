use Rattle.std.proofs.Common.{sym, ◌∙◌}
use Rattle.view_table.proofs.diff.put_slots.Goals as goal

pub returns-else-have_same_slots : goal.returns-else-have_same_slots
returns-else-have_same_slots g c =
    let other = sym c.have_same_slots.ensures ∙ c.if-have_same_slots.false in
    rw other c.write_all.ensures

use Rattle.view_table.specs.Groups.{asked_vm_cells}
use Rattle.view_table.proofs.groups.put_asked_vm.Goals as goal

pub returns : goal.returns
unfolding asked_vm_cells
returns g c = rw (
  ← c.count_in-count.ensures,
  ← c.asked_in-asked.ensures,
  ← c.given_in-share.ensures,
  ← c.wait_in-wait.ensures,
  ← c.least_in-promised.ensures,
  ← c.breaks_in-breaks.ensures,
  ← c.sum_cell.ensures,
  ← c.wait_cell.ensures,
  ← c.least_cell.ensures,
  ← c.is_refused.ensures,
  ← c.all_kept_cell.ensures,
) c.put_cells.ensures

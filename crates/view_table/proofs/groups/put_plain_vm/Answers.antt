use Rattle.view_table.specs.Groups.{vm_cells}
use Rattle.view_table.proofs.groups.put_plain_vm.Goals as goal

pub returns : goal.returns
unfolding vm_cells
returns g c = rw (
  ← c.count_in-count.ensures,
  ← c.given_in-share.ensures,
  ← c.wait_in-wait.ensures,
  ← c.wait_cell.ensures,
) c.put_cells.ensures

-- What the vCPUs of a size take of a round.
use Rattle.std.specs.Prelude.{◌≡◌, ℕ, ◌*◌}
use Rattle.tab_core.specs.declared.periodic.Periodic.{Periodic}
use Rattle.reservation.specs.Cost.{demand}
use Rattle.period_choice.specs.Choice.{IsChosen}
use Rattle.sizes_doc.specs.declared.size.Size.{Size}

-- with the budget that planning chooses for each vCPU of the size, all of them take so many ticks of a
-- round together
pub record Takes (tick : ℕ) (size : Size) (ticks : ℕ) : Type 0 where
  pub task : Periodic
  pub chosen : IsChosen size.reservation tick task
  pub is : ticks ≡ size.machines * size.vcpus * demand task.cost task.period

use Rattle.std.proofs.Common.{ℕ, refl}
use Rattle.std.proofs.lemmas.List.{get_or-replicate}
use Rattle.view_table.proofs.rows.loads_of.Goals as goal

pub loop-slot-init : goal.loop-slot-init
loop-slot-init c = record { count = refl; each = λ core low. get_or-replicate {A = ℕ} 32 core 0 0 low }

use Rattle.std.proofs.Common.{◌+◌, ◌*◌}
use Rattle.crew_turns.proofs.beside.+fn-spread-join_mut+arg3+spread.Given as goal

abbrev pub decreases-join_mut+arg3 : goal.decreases-join_mut+arg3
decreases-join_mut+arg3 g l = 2 * l.threads + 1

abbrev pub decreases-spread : goal.decreases-spread
decreases-spread g l = 2 * l.threads + 2

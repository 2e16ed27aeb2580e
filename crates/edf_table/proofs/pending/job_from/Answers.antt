use Rattle.std.proofs.Common.{arith}
use Rattle.edf_table.proofs.Turns.{short_period}
use Rattle.edf_table.proofs.pending.job_from.Goals as goal

pub overflow_add-due : goal.overflow_add-due
overflow_add-due c =
    omega (arith, short_period c.args.piece.now, c.args.piece.now.within, c.requires.in_round)

pub key_of-requires : goal.key_of-requires
key_of-requires c = omega (arith, short_period c.args.piece.now, c.args.piece.now.within, c.requires.in_round)

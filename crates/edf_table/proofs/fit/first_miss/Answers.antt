use Rattle.edf_table.proofs.Few.{few_pieces}
use Rattle.edf_table.proofs.fit.first_miss.Goals as goal

pub first_miss_in-requires-2-clause-a_begin_each : goal.first_miss_in-requires-2-clause-a_begin_each
first_miss_in-requires-2-clause-a_begin_each c = few_pieces c.args.pieces.now c.requires

pub first_miss_in-requires-2-clause-a_place_each : goal.first_miss_in-requires-2-clause-a_place_each
first_miss_in-requires-2-clause-a_place_each c = few_pieces c.args.pieces.now c.requires

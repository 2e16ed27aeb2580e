use Rattle.edf_table.proofs.Few.{few_pieces}
use Rattle.edf_table.proofs.row.first_segments.Goals as goal

pub first_segments_in-requires-2-clause-a_begin_each : goal.first_segments_in-requires-2-clause-a_begin_each
first_segments_in-requires-2-clause-a_begin_each c = few_pieces c.args.pieces.now c.requires.distinct

pub first_segments_in-requires-2-clause-a_place_each : goal.first_segments_in-requires-2-clause-a_place_each
first_segments_in-requires-2-clause-a_place_each c = few_pieces c.args.pieces.now c.requires.distinct

use Rattle.edf_table.proofs.Repeats.{round_common}
use Rattle.edf_table.proofs.common.common_period.Goals as goal

pub without-odd-requires-clause-common : goal.without-odd-requires-clause-common
without-odd-requires-clause-common c = round_common c.args.pieces.now

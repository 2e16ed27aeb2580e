use Rattle.view_table.specs.Data.{json_times}
use Rattle.view_table.proofs.data.put_json_times.Goals as goal

pub returns : goal.returns
unfolding json_times
returns g c = rw (
  ← c.period_piece-period.ensures,
  ← c.wait_or-ended.ensures,
  ← c.latency_or-latency.ensures,
  ← c.number_or-wait_piece.ensures,
  ← c.number_or-latency_piece.ensures,
) c.put_pieces.ensures

use Rattle.view_report.specs.RunJson.{core_ran_json}
use Rattle.view_report.proofs.json.put_core_ran.Goals as goal

pub returns : goal.returns
unfolding core_ran_json
returns g c = rw (
  ← c.time_piece-slots.ensures,
  ← c.time_piece-shared.ensures,
  ← c.time_piece-idle.ensures,
) c.put_pieces.ensures

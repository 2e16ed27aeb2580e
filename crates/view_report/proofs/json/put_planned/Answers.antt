use Rattle.view_report.specs.RunJson.{planned_json}
use Rattle.view_report.proofs.json.put_planned.Goals as goal

pub returns : goal.returns
unfolding planned_json
returns g c = rw (← c.time_piece-time.ensures) c.put_pieces.ensures

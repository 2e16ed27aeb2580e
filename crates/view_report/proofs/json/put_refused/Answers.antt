use Rattle.view_report.specs.RunJson.{refused_json}
use Rattle.view_report.proofs.json.put_refused.Goals as goal

pub returns : goal.returns
unfolding refused_json
returns g c = rw (← c.time_piece-time.ensures) c.put_pieces.ensures

use Rattle.view_report.specs.RunJson.{vcpu_ran_json}
use Rattle.view_report.proofs.json.put_vcpu_ran.Goals as goal

pub returns : goal.returns
unfolding vcpu_ran_json
returns g c = rw (
  ← c.time_piece-offered.ensures,
  ← c.time_piece-slots.ensures,
  ← c.time_piece-shared.ensures,
  ← c.time_piece-gap.ensures,
) c.put_pieces.ensures

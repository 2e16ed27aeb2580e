use Rattle.view_report.specs.RunCsv.{vcpu_ran_csv}
use Rattle.view_report.proofs.csv.put_vcpu.Goals as goal

pub returns : goal.returns
unfolding vcpu_ran_csv
returns g c = rw (
  ← c.time_piece-offered.ensures,
  ← c.time_piece-slots.ensures,
  ← c.time_piece-shared.ensures,
  ← c.time_piece-gap.ensures,
) c.put_pieces.ensures

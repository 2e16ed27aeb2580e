use Rattle.view_report.specs.RunCsv.{core_ran_csv}
use Rattle.view_report.proofs.csv.put_core_ran.Goals as goal

pub returns : goal.returns
unfolding core_ran_csv
returns g c = rw (
  ← c.time_piece-slots.ensures,
  ← c.time_piece-shared.ensures,
  ← c.time_piece-idle.ensures,
) c.put_pieces.ensures

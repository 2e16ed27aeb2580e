use Rattle.plan_promises.proofs.ReservationsLemmas.{kept_by_rows}
use Rattle.plan_promises.proofs.laws.rows_that_serve_keep_the_reservations.Goals as goal

pub returns : goal.returns
returns c = kept_by_rows

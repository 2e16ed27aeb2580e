use Rattle.wrap_table.proofs.Serving.{wrapped_serves_exactly}
use Rattle.wrap_table.proofs.laws.wrapped_rows_serve_exactly.Goals as goal

pub returns : goal.returns
returns c = wrapped_serves_exactly

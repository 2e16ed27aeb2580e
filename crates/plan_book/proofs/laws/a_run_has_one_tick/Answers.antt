use Rattle.plan_book.proofs.SameShape.{one_tick}
use Rattle.plan_book.proofs.laws.a_run_has_one_tick.Goals as goal

pub returns : goal.returns
returns c = one_tick

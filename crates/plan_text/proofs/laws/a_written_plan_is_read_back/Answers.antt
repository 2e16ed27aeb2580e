use Rattle.plan_text.proofs.ReadBack.{read_back}
use Rattle.plan_text.proofs.laws.a_written_plan_is_read_back.Goals as goal

pub returns : goal.returns
returns c = read_back

use Rattle.tab_core.proofs.Lists.{get_or-replicate_same}
use Rattle.plan_switch.proofs.state.ControlState.new.Goals as goal

pub returns-clause-known : goal.returns-clause-known
returns-clause-known c = λ d. get_or-replicate_same 32 d 0

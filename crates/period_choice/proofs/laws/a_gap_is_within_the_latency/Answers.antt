use Rattle.period_choice.proofs.Waits.{within_latency}
use Rattle.period_choice.proofs.laws.a_gap_is_within_the_latency.Goals as goal

pub returns : goal.returns
returns c = within_latency

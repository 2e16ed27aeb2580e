use Rattle.run_promises.proofs.OneTableLemmas.{complete_counts, each_round}
use Rattle.run_promises.proofs.laws.a_whole_run_entered_each_round.Goals as goal

pub returns-clause-entered : goal.returns-clause-entered
returns-clause-entered c = each_round

pub returns-clause-no_more : goal.returns-clause-no_more
returns-clause-no_more c = complete_counts

use Rattle.run_state.proofs.FinishedLemmas.{counts_used}
use Rattle.run_state.proofs.laws.every_core_used_the_decided_counts.Goals as goal

pub returns-clause-counts : goal.returns-clause-counts
returns-clause-counts c = λ course rounds d v run end lt. (counts_used course rounds d v run end lt).0

pub returns-clause-each_round : goal.returns-clause-each_round
returns-clause-each_round c = λ course rounds d v run end lt. (counts_used course rounds d v run end lt).1

use Rattle.trace_report.proofs.SoFarLemmas.{begun, more, whole}
use Rattle.trace_report.proofs.laws.accounts_make_a_report.Goals as goal

pub returns-clause-begun : goal.returns-clause-begun
returns-clause-begun c = begun

pub returns-clause-more : goal.returns-clause-more
returns-clause-more c = more

pub returns-clause-whole : goal.returns-clause-whole
returns-clause-whole c = whole

use Rattle.period_choice.proofs.DivisorLemmas.{divisor_listed, listed_divides}
use Rattle.period_choice.proofs.laws.the_periods_are_the_long_divisors.Goals as goal

pub returns-clause-listed : goal.returns-clause-listed
returns-clause-listed c = listed_divides

pub returns-clause-all : goal.returns-clause-all
returns-clause-all c = divisor_listed

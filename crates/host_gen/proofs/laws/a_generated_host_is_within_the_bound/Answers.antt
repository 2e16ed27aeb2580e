use Rattle.host_gen.proofs.BoundLemmas.{has_periods, has_room, within_bound}
use Rattle.host_gen.proofs.laws.a_generated_host_is_within_the_bound.Goals as goal

pub returns-clause-bound : goal.returns-clause-bound
returns-clause-bound c = within_bound

pub returns-clause-no_period : goal.returns-clause-no_period
returns-clause-no_period c = has_periods

pub returns-clause-no_room : goal.returns-clause-no_room
returns-clause-no_room c = has_room

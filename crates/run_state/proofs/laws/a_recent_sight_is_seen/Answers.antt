use Rattle.run_state.proofs.SightLemmas.{has_test, last_seen, seen_last, test_has}
use Rattle.run_state.proofs.laws.a_recent_sight_is_seen.Goals as goal

pub returns-clause-seen : goal.returns-clause-seen
returns-clause-seen c =
    λ course clock n sights. (seen_last course clock n sights, last_seen course clock n sights)

pub returns-clause-test : goal.returns-clause-test
returns-clause-test c = λ course count x. (test_has course count x, has_test course count x)

use Rattle.std.proofs.Common.{subst, sym}
use Rattle.tab_core.specs.Vcpus.{HaveDistinctNames}
use Rattle.tab_core.proofs.Edited.{distinct_names}
use Rattle.tests_samples.proofs.host.host_of.Goals as goal

pub of-requires-clause-distinct : goal.of-requires-clause-distinct
of-requires-clause-distinct c = distinct_names _ c.items.result.now c.in_ok-vcpus.ensures.names
    (subst HaveDistinctNames (sym c.items.ensures.same) c.items.ensures.distinct)

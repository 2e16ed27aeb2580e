use Rattle.std.proofs.Common.{arith}
use Rattle.size_fit.specs.MoreVms.{of_size}
use Rattle.size_fit.proofs.MoreLemmas.{grown_length}
use Rattle.size_fit.proofs.NameLemmas.{distinct}
use Rattle.size_fit.proofs.more_vms.host_with.Goals as goal

pub of-requires-clause-distinct : goal.of-requires-clause-distinct
of-requires-clause-distinct c =
    let size = grown_length c.loop-more.vcpus.items c.args.host.now.vcpus c.loop-more.more (of_size c.args.size.now)
    c.loop-more.invariant.same in
    distinct c.loop-more.vcpus.items (omega (arith, size, c.requires, c.loop-more.auto.more-end))
    c.loop-more.invariant.named

use Rattle.std.proofs.Common.{arith}
use Rattle.slice_table.specs.Slices.{ends_of}
use Rattle.slice_table.proofs.SliceListLemmas.{held_behind}
use Rattle.slice_table.proofs.slices.holder_from.Goals as goal

pub returns-else-tick-end-clause-holds : goal.returns-else-tick-end-clause-holds
returns-else-tick-end-clause-holds c =
    held_behind (ends_of c.args.spans.now) c.args.size c.args.number c.args.tick c.requires.ends
    c.requires.shortest c.requires.near c.requires.in_round (let end = c.end.ensures in omega (arith, c.if-tick-end.false))

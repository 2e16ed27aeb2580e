use Rattle.std.proofs.Common.{arith}
use Rattle.view_lanes.proofs.EdgeLemmas.{edge_small}
use Rattle.view_lanes.proofs.cells.edge_from.Goals as goal

pub returns-clause-small : goal.returns-clause-small
returns-clause-small c =
    let small = edge_small c.args.j c.args.span c.args.columns c.requires.there (omega (arith, c.ranges.span.fits))
    c.requires.few in
    grind (
      arith,
      small,
      c.ranges.from.fits,
      c.from.ensures,
      c.from-2.ensures,
      c.from-3.ensures,
      c.from-4.ensures,
      c.from-5.ensures,
    )

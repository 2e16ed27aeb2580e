use Rattle.std.proofs.Common.{ap, ◌-◌, length, arith}
use Rattle.table_form.specs.Tables.Segments.{segment_view}
use Rattle.coalesce.proofs.Ends.{last_two_can, two_rise}
use Rattle.coalesce.proofs.pass.can_swap_last.Goals as goal

pub can_swap-requires-clause-rises : goal.can_swap-requires-clause-rises
can_swap-requires-clause-rises c =
    let rise = two_rise c.args.out.now c.args.next.now.end (length c.args.out.now - 2)
    (length c.args.out.now - 1) c.index-out-count.result c.index-out-count-then-count-ge2.result
    c.requires.below
    (omega (arith, c.if-count-ge2.true)) (omega (arith, c.if-count-ge2.true)) in
    omega (
      arith,
      rise.0,
      ap (λ s. s.end) c.index-out-count.is,
      ap (λ s. s.end) c.index-out-count-then-count-ge2.is,
    )

pub can_swap-requires-clause-in_round : goal.can_swap-requires-clause-in_round
can_swap-requires-clause-in_round c =
    let rise = two_rise c.args.out.now c.args.next.now.end (length c.args.out.now - 2)
    (length c.args.out.now - 1) c.index-out-count.result c.index-out-count-then-count-ge2.result
    c.requires.below
    (omega (arith, c.if-count-ge2.true)) (omega (arith, c.if-count-ge2.true)) in
    omega (arith, rise.1, ap (λ s. s.end) c.index-out-count-then-count-ge2.is, c.requires.in_round)

pub returns-then-count-ge2-clause-swap : goal.returns-then-count-ge2-clause-swap
returns-then-count-ge2-clause-swap c pieces is =
    last_two_can pieces c.args.sliver c.args.out.now
    (segment_view c.args.next.now) c.index-out-count.result c.index-out-count-then-count-ge2.result
    c.can_swap.result
    c.if-count-ge2.true c.index-out-count.is c.index-out-count-then-count-ge2.is
    (c.can_swap.ensures pieces is)

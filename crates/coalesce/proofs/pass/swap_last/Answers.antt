use Rattle.std.proofs.Common.{◌-◌, refl, ap, arith}
use Rattle.coalesce.proofs.Ends.{swap_ends, two_rise}
use Rattle.coalesce.proofs.pass.swap_last.Goals as goal

pub overflow_sub-end : goal.overflow_sub-end
overflow_sub-end c =
    let rise = two_rise c.args.out.now.items c.args.end (c.len-last.result - 1 - 1)
    (c.len-last.result - 1) c.index.result.now c.index-2.result.now c.requires.below
    (omega (arith, c.len-last.ensures, c.args.out.now.ok.0, c.requires.two))
    (omega (arith, c.len-last.ensures, c.args.out.now.ok.0, c.requires.two)) in
    omega (arith, rise.1, ap (λ s. s.end) c.index-2.ensures)

pub overflow_add-x : goal.overflow_add-x
overflow_add-x c =
    let rise = two_rise c.args.out.now.items c.args.end (c.len-last.result - 1 - 1)
    (c.len-last.result - 1) c.index.result.now c.index-2.result.now c.requires.below
    (omega (arith, c.len-last.ensures, c.args.out.now.ok.0, c.requires.two))
    (omega (arith, c.len-last.ensures, c.args.out.now.ok.0, c.requires.two)) in
    let at_x = ap (λ s. s.end) c.index.ensures in
    let at_y = ap (λ s. s.end) c.index-2.ensures in
    omega (arith, rise.0, rise.1, at_x, at_y, c.ranges.end)

pub returns : goal.returns
returns c before x y is =
    swap_ends c.args.out.now.items c.args.end (c.len-last.result - 1 - 1)
    (c.len-last.result - 1) _ _ c.index.result.now c.index-2.result.now before x y is
    (omega (arith, c.len-last.ensures, c.args.out.now.ok.0, c.requires.two))
    (omega (arith, c.len-last.ensures, c.args.out.now.ok.0, c.requires.two))
    c.index.ensures c.index-2.ensures refl refl

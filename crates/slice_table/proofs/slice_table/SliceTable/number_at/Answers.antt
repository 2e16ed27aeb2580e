use Rattle.std.proofs.Common.{◌≡◌, ◌/◌, ◌+◌, List, subst, arith}
use Rattle.std.specs.Prelude.{slice_index}
use Rattle.slice_table.specs.declared.full_span.FullSpan.{FullSpan}
use Rattle.slice_table.specs.Slices.{HoldsTick, ends_of}
use Rattle.slice_table.proofs.EndsLemmas.{held_first, held_next}
use Rattle.slice_table.proofs.slice_table.SliceTable.number_at.Goals as goal

pub returns-then-tick-end-clause-holds : goal.returns-then-tick-end-clause-holds
returns-then-tick-end-clause-holds g c =
    let table = c.self.inside in
    let sliced = c.self.invariant in
    let number = c.number-first.result in
    let is : number ≡ slice_index table.slices (c.args.tick / table.size) = c.number-first.ensures in
    subst (λ (spans : List FullSpan). HoldsTick (ends_of spans) number c.args.tick) c.self.view_is
    (held_first table.size table.slices (ends_of table.spans) c.args.tick number sliced c.requires is
    (let end = c.end.ensures in omega (arith, c.if-tick-end.true)))

pub returns-else-tick-end-clause-holds : goal.returns-else-tick-end-clause-holds
returns-else-tick-end-clause-holds g c =
    let table = c.self.inside in
    let sliced = c.self.invariant in
    let number = c.number-first.result in
    let is : number ≡ slice_index table.slices (c.args.tick / table.size) = c.number-first.ensures in
    subst (λ (spans : List FullSpan). HoldsTick (ends_of spans) (number + 1) c.args.tick) c.self.view_is
    (held_next table.size table.slices (ends_of table.spans) c.args.tick number sliced c.requires is
    (let end = c.end.ensures in omega (arith, c.if-tick-end.false)))

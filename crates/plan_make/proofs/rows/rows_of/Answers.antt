use Rattle.std.proofs.Common.{◌∙◌, ◌≡◌, [], length, subst, sym, arith}
use Rattle.plan_make.specs.Inside.RowsOfCores.{AreRowsOf}
use Rattle.plan_make.proofs.RowsOfCores.{AreMade, made_of, made_rows}
use Rattle.plan_make.proofs.rows.rows_of.Goals as goal

made : (c : goal.After-of) → AreMade c.args.cores.now c.loop-core.rows.items
made c =
    let all : c.loop-core.core ≡ length c.args.cores.now =
    omega (arith, c.cores-count.ensures.count, c.loop-core.auto.core-end, c.loop-core-test.false) in
    record {
      size = c.loop-core.invariant.len ∙ all;
      each = λ core lt. c.loop-core.invariant.each core [] (omega arith);
    }

pub returns-clause-rows : goal.returns-clause-rows
returns-clause-rows c = c.of.ensures ∙ made_rows c.args.cores.now c.loop-core.rows.items (made c)

pub returns-clause-of : goal.returns-clause-of
returns-clause-of c = subst (AreRowsOf c.args.cores.now) (sym c.of.ensures)
    (made_of c.args.cores.now c.loop-core.rows.items (made c))

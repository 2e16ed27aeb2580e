use Rattle.std.proofs.Common.{ℕ, ◌+◌, arith}
use Rattle.flow_net.specs.Rows.{ticks_at}
use Rattle.tab_core.proofs.Totals.{total-step}
use Rattle.flow_net.proofs.Searched.{total-part}
use Rattle.flow_net.proofs.opening.row_sum.Goals as goal

pub overflow_add-sum : goal.overflow_add-sum
overflow_add-sum c =
    let f = λ (v : ℕ). ticks_at c.args.rows.now.items c.args.i v in
    omega (
      arith,
      c.loop-v.invariant,
      c.read-sum.ensures,
      total-step f c.loop-v.v,
      total-part f
          (c.loop-v.v + 1) c.args.width (omega (arith, c.loop-v-test.true)),
      c.requires.small,
    )

use Rattle.std.proofs.Common.{◌≡◌, ◌+◌, ◌*◌, ◌<◌, ◌≤◌, ◌++◌, length, ap, subst, sym, ◌∙◌, arith, length-set}
use Rattle.std.proofs.Math.Nat.{mul-le-mul}
use Rattle.tab_core.specs.declared.TheConstants.{ROUND}
use Rattle.flow_net.specs.Allotted.{allotment_view}
use Rattle.flow_net.specs.Rows.{row_at}
use Rattle.wrap_table.specs.Inside.Laying.{HasCells, IsLaidTo, owners}
use Rattle.wrap_table.specs.Wrapping.{length_at}
use Rattle.wrap_table.proofs.RowsLemmas.{cells_at, cells_more, end_in_round, laid_before, laid_further, length_more}
use Rattle.wrap_table.proofs.laying.row_of.Goals as goal

pub overflow_mul-core : goal.overflow_mul-core
overflow_mul-core c =
    let a = allotment_view c.args.allotment.now in
    let lt : c.loop-i.i < length a.ticks =
    omega (arith, c.loop-i-test.true, c.loop-i.invariant.size, c.requires.size) in
    let span = c.length_of-span.result in
    let short : span ≤ ROUND =
    omega (arith, c.length_of-span.ensures, end_in_round a c.requires.intervals c.loop-i.i lt) in
    let most = mul-le-mul {n₁ = c.args.core} {m₁ = span} {n₂ = 32} {m₂ =
    ROUND} (omega (arith, c.requires.core)) short in
    omega (arith, most)

pub lay-requires-clause-room : goal.lay-requires-clause-room
lay-requires-clause-room c =
    let a = allotment_view c.args.allotment.now in
    let lt : c.loop-i.i < length a.ticks =
    omega (arith, c.loop-i-test.true, c.loop-i.invariant.size, c.requires.size) in
    omega (
      arith,
      c.length_of-span.ensures,
      c.loop-i.invariant.ticks,
      end_in_round a c.requires.intervals
          c.loop-i.i lt,
    )

pub loop-i-preserved : goal.loop-i-preserved
loop-i-preserved c =
    let a = allotment_view c.args.allotment.now in
    let i = c.loop-i.i in
    let core = c.args.core in
    let inv = c.loop-i.invariant in
    let lt : i < length a.ticks = omega (arith, c.loop-i-test.true, inv.size, c.requires.size) in
    let span_is = c.length_of-span.ensures in
    let row_is : c.lay.new.row ≡ c.loop-i.row ++ cells_at a core i
    = c.in_ok-at.ensures.row
    ∙ ap (λ r. c.loop-i.row ++ r) (ap
    (λ ns. owners ns (core * c.length_of-span.result) c.length_of-span.result) c.ticks_in.ensures
    ∙ ap (λ s. owners (row_at a.ticks i) (core * s) s) span_is) in
    let next : core * length_at a i + length_at a i ≡ (core + 1) * length_at a i = omega arith in
    let laid : IsLaidTo (row_at a.ticks i) ((core + 1) * length_at a i) c.in_ok-at.field-0
    = subst (λ q. IsLaidTo (row_at a.ticks i) q c.in_ok-at.field-0) next
    (subst (λ s. IsLaidTo (row_at a.ticks i) (core * s + s) c.in_ok-at.field-0) span_is
    (subst (λ ns. IsLaidTo ns (core * c.length_of-span.result + c.length_of-span.result) c.in_ok-at.field-0)
    c.ticks_in.ensures c.in_ok-at.ensures.next)) in
    record {
      size = length-set c.loop-i.at.items i c.in_ok-at.field-0 ∙ inv.size;
      ticks = ap length row_is ∙ length_more a c.requires.intervals core c.loop-i.row i lt inv.ticks;
      cells = subst (λ r. HasCells a core r (i + 1)) (sym row_is)
          (cells_more a c.requires.intervals core c.loop-i.row i lt inv.ticks inv.cells);
      done = laid_further a core c.loop-i.at.items c.in_ok-at.field-0 i
          (omega (arith, lt, inv.size, c.requires.size)) laid inv.done;
      todo = laid_before a core c.loop-i.at.items c.in_ok-at.field-0 i inv.todo;
    }

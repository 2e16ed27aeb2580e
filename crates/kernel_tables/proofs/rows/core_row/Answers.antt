use Rattle.std.proofs.Common.{ℕ, ◌+◌, List, arith, subst, sym}
use Rattle.kernel_tables.specs.TablesText.{AreSpanLines}
use Rattle.kernel_tables.specs.TablesText.AreSpanLines.{NoSpan, Span}
use Rattle.kernel_tables.proofs.rows.core_row.Goals as goal

pub spans-init : goal.spans-init
spans-init c = record {
  within = omega arith;
  counted = omega arith;
  lines = λ plan is. subst (λ (t : List ℕ). AreSpanLines plan c.args.tick_ns c.args.words c.args.core 0 0 t)
      (sym c.new-lines.ensures.items) NoSpan;
}

pub spans-preserved : goal.spans-preserved
spans-preserved c = record {
  within = c.span-span.ensures.within;
  counted = omega (arith, c.spans.invariant.counted, c.span-span.ensures.after);
  lines = λ plan is. subst
      (λ (t : List ℕ). AreSpanLines plan c.args.tick_ns c.args.words c.args.core c.span-span.result.end (c.spans.count + 1) t)
      (sym c.in_ok-put_span.ensures)
      (Span c.spans.place c.spans.count c.span-span.result.end c.spans.lines.items c.span-span.result.owner
      c.span-span.result.sharers.now (c.spans.invariant.lines plan is) (c.span-span.ensures.span plan c.args.core is));
}

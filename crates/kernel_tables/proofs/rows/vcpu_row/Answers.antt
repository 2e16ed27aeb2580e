use Rattle.std.proofs.Common.{ℕ, ◌+◌, List, arith, subst, sym}
use Rattle.table_form.specs.Tables.Views.{plan_view}
use Rattle.kernel_tables.specs.TablesText.{AreStretchLines}
use Rattle.kernel_tables.specs.TablesText.AreStretchLines.{NoStretch, Stretch}
use Rattle.kernel_tables.proofs.rows.vcpu_row.Goals as goal

pub stretches-init : goal.stretches-init
stretches-init c = record {
  within = omega arith;
  counted = omega arith;
  lines = subst (λ (t : List ℕ). AreStretchLines (plan_view c.args.plan.now) c.args.tick_ns c.args.vcpu 0 0 t)
      (sym c.new-lines.ensures.items) NoStretch;
}

pub stretches-preserved : goal.stretches-preserved
stretches-preserved c =
    let is = c.stretch_from-stretch.ensures in
    record {
      within = is.within;
      counted = omega (arith, c.stretches.invariant.counted, is.after);
      lines = subst (λ (t : List ℕ). AreStretchLines (plan_view c.args.plan.now) c.args.tick_ns c.args.vcpu
          c.stretch_from-stretch.result.end (c.stretches.count + 1) t)
          (sym c.in_ok-put_stretch.ensures)
          (Stretch c.stretches.place c.stretches.count c.stretch_from-stretch.result.end c.stretches.lines.items
          c.stretch_from-stretch.result.core c.stretches.invariant.lines is);
    }

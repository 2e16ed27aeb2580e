use Rattle.std.proofs.Common.{◌≡◌, length, rules}
use Rattle.view_table.specs.Totals.{asked_total}
use Rattle.view_table.proofs.totals.put_asked_total.Goals as goal

pub returns : goal.returns
unfolding asked_total
returns g c =
    let count : c.len.result ≡ length c.args.view.now.tasks.items = search rules in
    rw (
      ← c.asked_below-asked.ensures,
      ← c.kept_below-kept.ensures,
      ← c.admitted_below-admitted.ensures,
      ← c.split_below-split.ensures,
      ← c.is_refused.ensures,
      ← c.kept_count.ensures,
      ← count,
    )
    c.put_cells.ensures

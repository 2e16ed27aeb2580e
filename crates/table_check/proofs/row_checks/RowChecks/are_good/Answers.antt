use Rattle.std.proofs.Common.{subst, sym}
use Rattle.table_check.specs.Seen.{HaveSeen, Seen}
use Rattle.table_check.specs.Shapes.{rows_of}
use Rattle.table_check.proofs.SeenRows.{good_if_none_short}
use Rattle.table_check.proofs.row_checks.RowChecks.are_good.Goals as goal

pub returns : goal.returns
returns c = λ tasks raw seen.
    let kept : Seen = record {
      tasks = c.self.inside.tasks.now;
      marks = c.self.inside.marks.items;
      counters = c.self.inside.counters.items;
    } in
    let here : HaveSeen tasks raw kept = subst (HaveSeen tasks raw) (sym c.self.view_is) seen in
    good_if_none_short tasks raw kept c.first_shortage.result c.is_none.result c.is_none.ensures
    (c.first_shortage.ensures (rows_of raw) (rw c.deref.ensures.value here.counted)) here

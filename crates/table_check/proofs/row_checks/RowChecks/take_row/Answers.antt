use Rattle.std.proofs.Common.{◌≡◌, None, arith, rules, subst, sym}
use Rattle.table_form.specs.Tables.Rows.{bad_place, cells_from}
use Rattle.table_form.proofs.Shapes.{rises_if_good}
use Rattle.table_check.specs.Seen.{HaveSeen, Seen}
use Rattle.table_check.proofs.SeenRows.{one_more_seen, room_if_few, room_more}
use Rattle.table_check.proofs.row_checks.RowChecks.take_row.Goals as goal

pub mark_row-requires : goal.mark_row-requires
mark_row-requires c =
    let good : bad_place 0 c.args.segments.now ≡ None = search rules in
    rises_if_good 0 c.args.segments.now good

pub add_row-requires-clause-room : goal.add_row-requires-clause-room
add_row-requires-clause-room c =
    room_if_few c.self.inside.tasks.now c.self.inside.taken c.self.inside.counters.items (omega arith)
    c.self.invariant

pub add_row-requires-clause-rises : goal.add_row-requires-clause-rises
add_row-requires-clause-rises c =
    let good : bad_place 0 c.args.segments.now ≡ None = search rules in
    rises_if_good 0 c.args.segments.now good

pub invariant_of-self-2 : goal.invariant_of-self-2
invariant_of-self-2 c =
    room_more c.self.inside.tasks.now c.self.inside.taken (cells_from 0 c.args.segments.now)
    c.self.inside.counters.items c.add_row.new.counters.items c.add_row.ensures.size c.add_row.ensures.grown
    c.self.invariant

pub returns-clause-taken : goal.returns-clause-taken
returns-clause-taken c = λ is tasks raw seen.
    let good : bad_place 0 c.args.segments.now ≡ None = search rules in
    let old : Seen = record {
      tasks = c.self.inside.tasks.now;
      marks = c.self.inside.marks.items;
      counters = c.self.inside.counters.items;
    } in
    one_more_seen tasks raw c.args.segments.now old c.mark_row.new.marks.items c.add_row.new.counters.items good
    (rises_if_good 0 c.args.segments.now good) c.mark_row.ensures.kept
    (c.mark_row.ensures.marked (search rules)) c.add_row.ensures.grown
    (subst (HaveSeen tasks raw) (sym c.self.view_is) seen)

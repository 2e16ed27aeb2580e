use Rattle.std.proofs.Common.{◌≡◌, option_copied, refl, Some}
use Rattle.std.proofs.lemmas.Option.{slice_get_read}
use Rattle.std.proofs.lemmas.Result.{err_from_is_err_and}
use Rattle.std.specs.List.{slice_get}
use Rattle.tab_io.proofs.SinkLemmas.{writes_broken, writes_then}
use Rattle.view_table.specs.Given.{is_refused}
use Rattle.view_table.proofs.TableLemmas.{row_at}
use Rattle.view_table.proofs.table.put_vcpu.Goals as goal

pub returns-in_err-put_row : goal.returns-in_err-put_row
returns-in_err-put_row g c =
    let view = c.args.view.now in
    let p = err_from_is_err_and c.from_residual.result c.from_residual.ensures.1 in
    let task : slice_get view.tasks.items c.args.vcpu ≡ Some c.index.result.now =
    slice_get_read view.tasks.items _ c.args.vcpu c.index.result.now refl c.requires.low c.index.ensures in
    let name = rw c.deref.ensures.value at c.name_at-name.ensures in
    rw (
      p.1,
      row_at (option_copied c.args.host) (is_refused c.args.figures.now.refusal.items) c.args.tick_ns c.args.width
          view.names.items view.tasks.items view.slots.items view.cores c.args.vcpu c.index.result.now
          c.name_at-name.result.now c.figure_at-figure.result task name c.figure_at-figure.ensures,
    )
    (writes_broken _ _ _ _ _ _ c.put_row.ensures c.in_err-put_row.was)

pub returns : goal.returns
returns g c =
    let view = c.args.view.now in
    let task : slice_get view.tasks.items c.args.vcpu ≡ Some c.index.result.now =
    slice_get_read view.tasks.items _ c.args.vcpu c.index.result.now refl c.requires.low c.index.ensures in
    let name = rw c.deref.ensures.value at c.name_at-name.ensures in
    rw (row_at (option_copied c.args.host) (is_refused c.args.figures.now.refusal.items) c.args.tick_ns c.args.width
    view.names.items view.tasks.items view.slots.items view.cores c.args.vcpu c.index.result.now
    c.name_at-name.result.now c.figure_at-figure.result task name c.figure_at-figure.ensures)
    (writes_then _ _ _ _ _ _ _ _ c.put_row.ensures c.in_ok-put_row.was c.put_core_words.ensures)

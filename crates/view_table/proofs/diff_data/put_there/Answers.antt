use Rattle.std.proofs.Common.{◌≡◌, Some, refl}
use Rattle.std.proofs.lemmas.Option.{slice_get_read}
use Rattle.std.specs.List.{slice_get}
use Rattle.view_table.proofs.diff_data.put_there.Goals as goal

pub returns : goal.returns
returns g c =
    let task : slice_get c.args.view.now.tasks.items c.args.vcpu ≡ Some c.index.result.now =
    slice_get_read c.args.view.now.tasks.items _ c.args.vcpu c.index.result.now refl c.requires.low c.index.ensures in
    rw (task, ← c.figure_of-wait.ensures) c.put_task.ensures

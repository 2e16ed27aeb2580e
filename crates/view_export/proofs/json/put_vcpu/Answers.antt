use Rattle.std.proofs.Common.{◌≡◌, Some, None, refl, arith}
use Rattle.std.proofs.lemmas.Grind.{common_steps}
use Rattle.std.proofs.lemmas.Option.{slice_get_past, slice_get_read}
use Rattle.std.specs.List.{slice_get}
use Rattle.vcpu_names.specs.Names.{name_at}
use Rattle.view_export.proofs.json.put_vcpu.Goals as goal

pub returns-in-Some : goal.returns-in-Some
returns-in-Some g c =
    let name : name_at c.args.names.now c.args.vcpu ≡ c.bytes-name.result.now = grind (arith, common_steps) in
    let found = c.in-Some.ensures.lookup in
    let task : slice_get c.args.tasks.now c.args.vcpu ≡ Some c.in-Some.task.now =
    slice_get_read c.args.tasks.now _ c.args.vcpu c.in-Some.task.now refl found.3.0 found.1 in
    rw (name, task) c.put_task.ensures

pub returns-in-None : goal.returns-in-None
returns-in-None g c =
    let name : name_at c.args.names.now c.args.vcpu ≡ c.bytes-name.result.now = grind (arith, common_steps) in
    let task : slice_get c.args.tasks.now c.args.vcpu ≡ None =
    slice_get_past c.args.tasks.now c.args.vcpu c.in-None.ensures.lookup.3 in
    rw (name, task) c.put_bare.ensures

use Rattle.std.proofs.Common.{◌≡◌, Some, None, refl}
use Rattle.std.proofs.lemmas.Option.{slice_get_past, slice_get_read}
use Rattle.std.specs.List.{slice_get}
use Rattle.tab_io.proofs.SinkLemmas.{writes_nothing}
use Rattle.view_judge.proofs.tables.put_share_row.Goals as goal

pub returns-in-Some : goal.returns-in-Some
returns-in-Some g c =
    let found = c.in-Some.ensures.lookup in
    let at : slice_get c.args.vcpus.now c.args.vcpu ≡ Some c.in-Some.one.now =
    slice_get_read c.args.vcpus.now _ c.args.vcpu c.in-Some.one.now refl found.3.0 found.1 in
    rw (at) c.put_share_said.ensures

pub returns-in-None : goal.returns-in-None
returns-in-None g c =
    let at : slice_get c.args.vcpus.now c.args.vcpu ≡ None =
    slice_get_past c.args.vcpus.now c.args.vcpu c.in-None.ensures.lookup.3 in
    rw at (writes_nothing _ _)

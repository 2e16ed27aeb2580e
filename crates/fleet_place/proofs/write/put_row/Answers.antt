use Rattle.std.proofs.Common.{◌≡◌, get_or, ◌∙◌}
use Rattle.std.proofs.lemmas.List.{get_or_default}
use Rattle.fleet_place.specs.FleetText.{no_host}
use Rattle.fleet_place.proofs.write.put_row.Goals as goal

pub returns : goal.returns
returns g c =
    let held : c.index-hosts-number.result ≡ get_or c.args.hosts.now c.args.number no_host =
    c.index-hosts-number.is
    ∙ get_or_default c.args.hosts.now c.args.number c.index-hosts-number.result no_host c.requires.low in
    rw (
      c.from.ensures,
      c.cores.ensures.value,
      c.vms.ensures,
      c.from-2.ensures,
      c.vcpus.ensures.value,
      c.load.ensures.value,
      c.from-3.ensures,
      held,
    ) at c.put_full.ensures

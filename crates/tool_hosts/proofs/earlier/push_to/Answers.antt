use Rattle.std.proofs.Common.{arith, refl}
use Rattle.std.proofs.lemmas.Option.{slice_get-get_or}
use Rattle.tool_hosts.proofs.EarlierLemmas.{pushed}
use Rattle.tool_hosts.proofs.earlier.push_to.Goals as goal

pub returns : goal.returns
returns c = λ held there.
    (let low = c.requires in
    pushed c.args.groups.now c.args.number _ _ c.args.vm.now held
    (slice_get-get_or c.args.groups.now c.args.number c.index-groups-number.result (omega (arith, low)))
    (rw c.in_ok-push.ensures.items refl) there)

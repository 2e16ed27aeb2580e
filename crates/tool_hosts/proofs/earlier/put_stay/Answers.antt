use Rattle.std.proofs.Common.{◌≡◌, ◌≤◌, Some, arith, inl, inr, length, refl}
use Rattle.std.proofs.lemmas.List.{length-map}
use Rattle.std.proofs.lemmas.Option.{slice_get_cases, slice_get_past, slice_get_read}
use Rattle.std.specs.Prelude.{slice_get, slice_index}
use Rattle.fleet_place.specs.Held.{Held}
use Rattle.tool_hosts.specs.Earlier.{held_in, held_of}
use Rattle.tool_hosts.proofs.EarlierLemmas.{goes_back, passes}
use Rattle.tool_hosts.proofs.earlier.put_stay.Goals as goal

pub returns-then-vm-vms : goal.returns-then-vm-vms
returns-then-vm-vms c =
    let beyond = c.if-vm-vms.true in
    passes _ _ _ _ (inl (slice_get_past c.args.vms.now c.args.stay.now.vm (omega (arith, beyond))))

pub returns-then-host-groups : goal.returns-then-host-groups
returns-then-host-groups c =
    let beyond = c.if-host-groups.true in
    let count : length (held_in c.args.groups.now) ≡ length c.args.groups.now = length-map c.args.groups.now held_of in
    passes _ _ _ _ (inr (inl (slice_get_past (held_in c.args.groups.now) c.args.stay.now.host (omega (arith, beyond, count)))))

pub returns-then-is_back-vm : goal.returns-then-is_back-vm
returns-then-is_back-vm c = passes _ _ _ _ (inr (inr c.if-is_back-vm.true))

pub returns : goal.returns
returns c =
    let low = c.if-vm-vms.false in
    let near = c.if-host-groups.false in
    let count : length (held_in c.args.groups.now) ≡ length c.args.groups.now = length-map c.args.groups.now held_of in
    let at = slice_get_read c.args.vms.now _ c.args.stay.now.vm c.index-vms-vm.result refl (omega (arith, low))
    c.index-vms-vm.is in
    elim (slice_get_cases (held_in c.args.groups.now) c.args.stay.now.host).1 [
      | inl p ↦ goes_back c.args.vms.now (held_in c.args.groups.now) _ c.args.is_back.now c.args.stay.now
          c.index-vms-vm.result p.0 at p.2 c.if-is_back-vm.false (c.in_ok-push_to.ensures p.0 p.2)
      | inr p ↦ absurd (omega (arith, near, count, p.0))
    ]

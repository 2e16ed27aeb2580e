use Rattle.std.proofs.Common.{◌≡◌, ap, get_or, subst, ◌∙◌}
use Rattle.std.proofs.lemmas.List.{get_or_default}
use Rattle.std.proofs.lemmas.Result.{err_from_is_err_and}
use Rattle.std.specs.List.{flat_map}
use Rattle.tab_io.specs.Sinks.{Writes}
use Rattle.tab_words.proofs.NumberedTextLemmas.{all_written, next_broken, next_written, none_written}
use Rattle.fleet_place.specs.FleetText.{host_lines, no_host, vm_line}
use Rattle.fleet_place.specs.Held.{Held}
use Rattle.fleet_place.proofs.write.put_hosts.Goals as goal

pub loop-number-init : goal.loop-number-init
loop-number-init g c = none_written _ _ (tt {0})

pub returns-in_err-put_vms : goal.returns-in_err-put_vms
returns-in_err-put_vms g c =
    let p = err_from_is_err_and c.from_residual.result c.from_residual.ensures.1 in
    let same : c.vms.result.now ≡ (get_or c.args.hosts.now c.loop-number.number no_host).vms =
    c.vms.ensures ∙ ap (λ (h : Held). h.vms) (c.index-hosts-number.is
    ∙ get_or_default c.args.hosts.now c.loop-number.number c.index-hosts-number.result no_host c.loop-number-test.true) in
    let written = subst (λ vms. Writes (g.K.Sink.state c.loop-number.sink) (g.K.Sink.state c.put_vms.new.sink)
    (flat_map (vm_line c.loop-number.number) vms) c.put_vms.result) same c.put_vms.ensures in
    rw p.1 (next_broken _ _ _ (host_lines c.args.hosts.now) c.loop-number.number _ (tt {0}) _
    c.in_err-put_vms.field-0.0 c.loop-number-test.true c.loop-number.invariant written c.in_err-put_vms.was)

pub loop-number-preserved : goal.loop-number-preserved
loop-number-preserved g c =
    let same : c.vms.result.now ≡ (get_or c.args.hosts.now c.loop-number.number no_host).vms =
    c.vms.ensures ∙ ap (λ (h : Held). h.vms) (c.index-hosts-number.is
    ∙ get_or_default c.args.hosts.now c.loop-number.number c.index-hosts-number.result no_host c.loop-number-test.true) in
    let written = subst (λ vms. Writes (g.K.Sink.state c.loop-number.sink) (g.K.Sink.state c.put_vms.new.sink)
    (flat_map (vm_line c.loop-number.number) vms) c.put_vms.result) same c.put_vms.ensures in
    next_written _ _ _ (host_lines c.args.hosts.now) c.loop-number.number (tt {0}) c.in_ok-put_vms.field-0 _
    c.loop-number.invariant written c.in_ok-put_vms.was

pub returns : goal.returns
returns g c = all_written _ _ (host_lines c.args.hosts.now) c.loop-number.number _ (tt {0})
    c.loop-number.auto.number-end c.loop-number-test.false c.loop-number.invariant

use Rattle.std.proofs.Common.{◌≡◌, ◌∙◌, ap, length, sym}
use Rattle.std.proofs.lemmas.List.{with_items_is}
use Rattle.vcpu_names.specs.Names.{names_of}
use Rattle.plan_text.proofs.OldHomesLemmas.{one_line_more}
use Rattle.plan_text.proofs.ReadingHeadLemmas.{host_names}
use Rattle.plan_text.proofs.old_homes.homes_of.Goals as goal

pub put_home-requires-clause-good : goal.put_home-requires-clause-good
put_home-requires-clause-good c =
    let own : c.in_ok-names.names ≡ names_of c.args.host.now.vcpus =
    c.in_ok-names.ensures.names ∙ ap names_of c.items.ensures.same in
    host_names c.args.host.now.vcpus c.in_ok-names.names own c.in_ok-names.ensures.good
    c.items.ensures.distinct

pub loop-vcpu-preserved : goal.loop-vcpu-preserved
loop-vcpu-preserved c =
    let own : c.in_ok-names.names ≡ names_of c.args.host.now.vcpus =
    c.in_ok-names.ensures.names ∙ ap names_of c.items.ensures.same in
    let value : c.deref_mut.result.now ≡ c.loop-vcpu.homes.items =
    c.deref_mut.ensures.value in
    let many : length c.put_home.new.homes ≡ length c.loop-vcpu.homes.items =
    c.put_home.ensures.as_many ∙ ap length value in
    rw (with_items_is c.loop-vcpu.homes c.put_home.new.homes (many ∙ sym c.loop-vcpu.homes.ok.0))
    (one_line_more (names_of c.args.host.now.vcpus) c.args.vcpus.now c.loop-vcpu.vcpu-index
    c.vcpu-item.result c.loop-vcpu.homes.items c.put_home.new.homes c.loop-vcpu.invariant
    c.loop-vcpu-test.true c.vcpu-item.is many (rw (own, value) at c.put_home.ensures.each))

use Rattle.std.proofs.Common.{rules, ◌≡◌, ◌≤◌, List, length, None, ℕ, Option, Some, refl, slice_get, subst}
use Rattle.std.proofs.lemmas.Option.{MatchOption-at_none, MatchOption-at_some, slice_get_past, slice_get_read}
use Rattle.tab_core.specs.declared.vcpu.Vcpu.{Vcpu}
use Rattle.advice.specs.Advice.{IsPeriodText, IsVcpuText, WhereThereIs, WritesSome}
use Rattle.advice.proofs.AgainLemmas.{no_such_vcpu_is_told, no_vcpu_is_told}
use Rattle.advice.proofs.WritesLemmas.{tells_nothing, tells_vcpu}
use Rattle.advice.proofs.hosts.put_no_period.Goals as goal

pub returns-in_default : goal.returns-in_default
returns-in_default g c =
    let none = MatchOption-at_none _ _ c.in_default.is c.in_ok-host.ensures.found in
    tells_nothing (IsPeriodText c.args.section.now c.args.vcpu.now) _
    (no_vcpu_is_told c.args.section.now c.args.vcpu.now none)

pub returns-in_default-get : goal.returns-in_default-get
returns-in_default-get g c =
    let is_host = MatchOption-at_some _ _ c.in-Some.host c.in-Some.is c.in_ok-host.ensures.found in
    let past : length c.items.result.now ≤ c.index.result = search rules in
    let numbered =
    subst (λ (n : ℕ). slice_get c.items.result.now n ≡ None) c.index.ensures.value
    (slice_get_past c.items.result.now c.index.result past) in
    let none =
    subst (λ (vcpus : List Vcpu). slice_get vcpus c.args.vcpu.now ≡ None) c.items.ensures.same numbered in
    tells_nothing (IsPeriodText c.args.section.now c.args.vcpu.now) _
    (no_such_vcpu_is_told c.args.section.now c.args.vcpu.now c.in-Some.host is_host none)

pub returns : goal.returns
returns g c =
    let is_host = MatchOption-at_some _ _ c.in-Some.host c.in-Some.is c.in_ok-host.ensures.found in
    let lookup = c.in-Some-get.ensures.lookup in
    let read =
    slice_get_read c.items.result.now _ c.index.result c.in-Some-get.found.now refl lookup.3.0 lookup.1 in
    let numbered =
    subst (λ (n : ℕ). slice_get c.items.result.now n ≡ Some c.in-Some-get.found.now) c.index.ensures.value read in
    let at =
    subst (λ (vcpus : List Vcpu). slice_get vcpus c.args.vcpu.now ≡ Some c.in-Some-get.found.now)
    c.items.ensures.same numbered in
    let wrote =
    subst (λ (line : Option (ℕ × List ℕ)). WritesSome
    (WhereThereIs (IsVcpuText line c.in-Some-get.found.now c.in-Some.host.tick_ns))
    (g.K.Sink.state c.args.sink.now) (g.K.Sink.state c.put_vcpu_period.new.sink) c.put_vcpu_period.result)
    c.latency_line-line.ensures c.put_vcpu_period.ensures in
    tells_vcpu c.args.section.now c.args.vcpu.now c.in-Some.host c.in-Some-get.found.now _ _ _ is_host at wrote

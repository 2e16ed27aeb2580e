use Rattle.std.proofs.Common.{subst, sym}
use Rattle.std.proofs.lemmas.Result.{err_from_is_err_and}
use Rattle.sizes_doc.specs.Inside.Written.{parts_in}
use Rattle.sizes_doc.specs.Sizes.{BadLatency, BadShare, IsBadPart, NoMachines, NoVcpus}
use Rattle.sizes_doc.specs.declared.fault.Part.{Part}
use Rattle.sizes_doc.proofs.size_reader.size_from.Goals as goal

pub returns-in_default-clause-part : goal.returns-in_default-clause-part
returns-in_default-clause-part c = NoMachines c.in_default.ensures

pub returns-in_default-count_of-clause-part : goal.returns-in_default-count_of-clause-part
returns-in_default-count_of-clause-part c =
    NoVcpus c.in-Some.machines c.in-Some.ensures c.in_default-count_of.ensures

pub returns-in_err-share_ppm-clause-part : goal.returns-in_err-share_ppm-clause-part
returns-in_err-share_ppm-clause-part c =
    let p = err_from_is_err_and c.from_residual.result c.from_residual.ensures.1 in
    let due : IsBadPart (parts_in c.args.parts.now) c.in_err-share_ppm.field-0.0 =
    BadShare c.in-Some.machines c.in-Some-count_of.vcpus c.in_err-share_ppm.field-0.0 c.in-Some.ensures
    c.in-Some-count_of.ensures c.in_err-share_ppm.ensures.part in
    rw p.1 (subst (λ (part : Part). IsBadPart (parts_in c.args.parts.now) part) (sym p.2) due)

pub returns-in_err-latency_ns-clause-part : goal.returns-in_err-latency_ns-clause-part
returns-in_err-latency_ns-clause-part c =
    let p = err_from_is_err_and c.from_residual-in_err-latency_ns.result
    c.from_residual-in_err-latency_ns.ensures.1 in
    let due : IsBadPart (parts_in c.args.parts.now) c.in_err-latency_ns.field-0.0 =
    BadLatency c.in-Some.machines c.in-Some-count_of.vcpus c.in_ok-share_ppm.share_ppm c.in_err-latency_ns.field-0.0
    c.in-Some.ensures c.in-Some-count_of.ensures c.in_ok-share_ppm.ensures.ok c.in_err-latency_ns.ensures.part in
    rw p.1 (subst (λ (part : Part). IsBadPart (parts_in c.args.parts.now) part) (sym p.2) due)

use Rattle.std.proofs.Common.{◌≡◌, ◌⊎◌, ◌∙◌, List, inr, subst, sym}
use Rattle.std.proofs.lemmas.Result.{err_from_is_err_and}
use Rattle.tab_core.specs.declared.vcpu.Vcpu.{Vcpu}
use Rattle.sizes_doc.specs.SizedHost.{HasSizesFault, IsTwice, NamesTwice, sizes_vcpus}
use Rattle.sizes_doc.specs.declared.fault.SizesFault.{SizesFault}
use Rattle.sizes_doc.specs.declared.fault.SizesFault.TheVariants.{NoMemory}
use Rattle.sizes_doc.proofs.SizedLemmas.{all_admitted}
use Rattle.sizes_doc.proofs.sized_host.host_of_sizes.Goals as goal

pub returns-in_err-vcpus-clause-fault : goal.returns-in_err-vcpus-clause-fault
returns-in_err-vcpus-clause-fault c =
    let p = err_from_is_err_and c.from_residual.result c.from_residual.ensures.1 in
    rw p.1 (subst (λ (fault : SizesFault). (fault ≡ NoMemory) ⊎ HasSizesFault c.args.sizes.now fault) (sym p.2) c.in_err-vcpus.ensures.fault)

pub returns-in-Some-clause-fault : goal.returns-in-Some-clause-fault
returns-in-Some-clause-fault c =
    let twice : IsTwice c.as_slice.result.now c.in-Some.vcpu = rw c.in-Some.is at c.in_ok-vcpu.ensures in
    let made : c.as_slice.result.now ≡ sizes_vcpus c.args.sizes.now =
    c.as_slice.ensures.value ∙ c.in_ok-vcpus.ensures.vcpus in
    inr (NamesTwice c.in-Some.vcpu (subst (λ (vs : List Vcpu). IsTwice vs c.in-Some.vcpu) made twice))

pub returns-clause-admitted : goal.returns-clause-admitted
returns-clause-admitted c = rw (c.of.ensures, c.in_ok-vcpus.ensures.vcpus) (all_admitted c.args.sizes.now)
